-- The walk of the marks as the code goes it, round the ring: the laws of Walk.antt for the used bytes.
use Rattle.std.proofs.Common.{◌≡◌, ℕ, ◌+◌, ◌-◌, ◌<◌, ◌≤◌, eqb, List, ◌++◌, length, take, drop, sym, ap, ◌∙◌, ap₂, ⊎_elim, arith, length-drop, length-take-le, le-ltb, lt-ltb}
use Rattle.basics.proofs.Tests.{lt_or_ge}
use Rattle.link.specs.Parsing.{mark_at}
use Rattle.link.proofs.Store.{whole_from}
use Rattle.ring.specs.Ring.{round_from}
use Rattle.marks.specs.Queue.{used_in}
use Rattle.marks.specs.Walk.{over_end, leads_to_end, LeadsOn}
use Rattle.marks.proofs.Walk as walk
use Rattle.marks.proofs.Used.{used_length, used_mark, used_near, used_far}

-- ---- stretch by stretch, from an index on

module _ (queue : List ℕ) (start used : ℕ) (size : length queue ≡ 32768) (s : start < 32768) (u : used ≤ 32768) where
  abbrev waiting : List ℕ
  waiting = used_in queue start used

  used_size : length waiting ≡ used
  used_size = used_length queue start used (omega arith)

  -- the part up to the buffer's end
  abbrev front : List ℕ
  front = take (length queue - start) (drop start queue)

  front_size : length front ≡ 32768 - start
  front_size = length-take-le (length queue - start) (drop start queue) (rw length-drop (omega arith)) ∙ omega arith

  -- all stand before the buffer's end
  pub one_stretch : {behind at : ℕ} → used ≤ 32768 - start → behind ≤ used
      → LeadsOn (take (start + used - start) (drop start queue)) behind at → length (take (start + used - start) (drop start queue)) ≤ at + 1
      → eqb at used ≡ whole_from waiting behind
  one_stretch {behind} {at} n b on h =
      let all = used_near queue start used (omega arith) (omega arith) in
      let size-near : length (take (start + used - start) (drop start queue)) ≡ used = ap length all ∙ used_size in
      ap (eqb at) (sym size-near)
      ∙ walk.last on (omega arith) h
      ∙ ap (λ (bytes : List ℕ). leads_to_end bytes behind) all
      ∙ walk.leads waiting behind (omega (arith, used_size))

  -- the end parts a mark, or is passed
  module _ (at : ℕ) (h : length front ≤ at + 1) where
    abbrev mark : ℕ
    mark = mark_at (drop at (round_from start queue))

    pub past_end : 32768 - start ≤ over_end queue start at
    past_end = ⊎_elim parted passed (lt_or_ge at (32768 - start))
      where
        parted : at < 32768 - start → 32768 - start ≤ over_end queue start at
        parted l = rw (lt-ltb at (32768 - start) l) (omega (arith, front_size, walk.further at mark 65536 (omega arith)))

        passed : 32768 - start ≤ at → 32768 - start ≤ over_end queue start at
        passed l = rw (le-ltb at (32768 - start) l) l

    over : 32768 - start < used → leads_to_end waiting (over_end queue start at) ≡ leads_to_end waiting at
    over f = ⊎_elim parted passed (lt_or_ge at (32768 - start))
      where
        parted : at < 32768 - start → leads_to_end waiting (over_end queue start at) ≡ leads_to_end waiting at
        parted l =
            let here = used_mark queue start used (omega arith) at (omega arith) in
            rw (lt-ltb at (32768 - start) l) (walk.leads_on at mark 65536 waiting (omega (arith, used_size)) (omega (arith, used_size)) here)

        passed : 32768 - start ≤ at → leads_to_end waiting (over_end queue start at) ≡ leads_to_end waiting at
        passed l = rw (le-ltb at (32768 - start) l)

  pub two_stretches : {behind at from reached : ℕ} → 32768 - start < used → behind ≤ used → LeadsOn front behind at → length front ≤ at + 1
      → from ≡ over_end queue start at
      → LeadsOn (take (used - (32768 - start)) queue) (from - (32768 - start)) reached → length (take (used - (32768 - start)) queue) ≤ reached + 1
      → eqb reached (used - (32768 - start)) ≡ whole_from waiting behind
  two_stretches {behind} {at} {from} {reached} f b on h e rest-on rest-h =
      let near = 32768 - start in
      let rest = take (used - near) queue in
      let rest-size : length rest ≡ used - near = length-take-le (used - near) queue (omega arith) in
      let all : front ++ rest ≡ waiting = used_far queue start used (omega arith) near (omega arith) (omega arith) (omega arith) in
      let place : length front + (from - near) ≡ over_end queue start at = omega (arith, front_size, past_end at h) in
      ap (eqb reached) (sym rest-size)
      ∙ walk.last rest-on (omega arith) rest-h
      ∙ walk.behind_stretch front rest (from - near)
      ∙ ap₂ leads_to_end all place
      ∙ over at h f
      ∙ rw all at (on.alike rest (omega (arith, front_size)))
      ∙ walk.leads waiting behind (omega (arith, used_size))
