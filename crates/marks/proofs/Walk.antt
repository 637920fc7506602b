-- The walk of the marks: what a mark at a position says of the bytes from there on, in the tests of the code.
use Rattle.std.proofs.Common.{◌≡◌, ℕ, ◌+◌, ◌-◌, ◌*◌, ◌<◌, ◌≤◌, Bool, true, false, cond, ◌&&◌, eqb, leb, ◌⊎◌, List, [], ◌∷◌, ◌++◌, length, sym, refl, ap, ◌∙◌, subst, ap₂, inl, inr, ⊎_elim, append-nil, arith, length-append, eq-eqb, ne_eqb, le-leb}
use mathlib.Core.Bool.{and-false}
use lib.ListN.{get_or-append}
use lib.Seq.{drop-append-add}
use borrow.Author.Tests.{lt-leb}
use Rattle.basics.proofs.Tests.{lt_or_ge}
use Rattle.link.proofs.Store.{mark_from, is_length_from, whole_from, whole_step, whole_front, whole_begun, whole_end}
use Rattle.basics.specs.Lists.{is_some}
use Rattle.link.specs.Parsing.{packets_in, is_whole}
use Rattle.marks.specs.Walk.{behind_packet, leads_to_end, LeadsOn}

-- ---- from a place on

-- there is no room for a mark
runs_out : (bytes : List ℕ) (at : ℕ) → at + 1 ≡ length bytes → whole_from bytes at ≡ false
runs_out bytes at e =
    let m = mark_from bytes at in
    whole_step bytes at (omega arith) ∙ rw (lt-leb (at + 2 + m) (length bytes) (omega arith), and-false)

pub leads : (bytes : List ℕ) (at : ℕ) → at ≤ length bytes → leads_to_end bytes at ≡ whole_from bytes at
unfolding leads_to_end whole_from
leads bytes at l = rw (le-leb at (length bytes) l)

lost : (bytes : List ℕ) (at : ℕ) → length bytes < at → leads_to_end bytes at ≡ false
unfolding leads_to_end
lost bytes at l = rw (lt-leb at (length bytes) l)

-- where no mark stands any more, the very end is right and nothing else
at_end : (bytes : List ℕ) (at : ℕ) → length bytes ≤ at + 1 → eqb at (length bytes) ≡ leads_to_end bytes at
at_end bytes at h = ⊎_elim before (λ g. ⊎_elim (here g) behind (lt_or_ge at (length bytes + 1))) (lt_or_ge at (length bytes))
  where
    before : at < length bytes → eqb at (length bytes) ≡ leads_to_end bytes at
    before l = ne_eqb at (length bytes) (λ z. omega arith) ∙ sym (leads bytes at (omega arith) ∙ runs_out bytes at (omega arith))

    here : length bytes ≤ at → at < length bytes + 1 → eqb at (length bytes) ≡ leads_to_end bytes at
    here g l = eq-eqb at (length bytes) (omega arith) ∙ sym (leads bytes at (omega arith) ∙ whole_end bytes at g)

    behind : length bytes + 1 ≤ at → eqb at (length bytes) ≡ leads_to_end bytes at
    behind l = ne_eqb at (length bytes) (λ z. omega arith) ∙ sym (lost bytes at (omega arith))

-- a mark leads behind its packet, or nowhere
module _ (at n nowhere : ℕ) where
  pub leads_on : (bytes : List ℕ) → at + 2 ≤ length bytes → length bytes < nowhere → n ≡ mark_from bytes at
      → leads_to_end bytes (behind_packet at n nowhere) ≡ leads_to_end bytes at
  unfolding leads_to_end whole_from
  leads_on bytes r l e = go (leb 1 n && leb n 9000) ∙ sym (leads bytes at (omega arith) ∙ rw e (whole_step bytes at (omega arith)))
    where
      go : (is_length_lem : Bool)
          → leads_to_end bytes (cond is_length_lem (at + 2 + n) nowhere) ≡ (is_length_lem && leb (at + 2 + n) (length bytes) && whole_from bytes (at + 2 + n))
      go true = refl
      go false = lost bytes nowhere l

  pub further : at + 2 ≤ nowhere → at + 2 ≤ behind_packet at n nowhere
  further l = go (leb 1 n && leb n 9000)
    where
      go : (is_length_lem : Bool) → at + 2 ≤ cond is_length_lem (at + 2 + n) nowhere
      go true = omega arith
      go false = l

-- ---- stretch by stretch

module _ {stretch : List ℕ} {from : ℕ} where
  -- a mark in the stretch is the same whatever stands behind it
  pub goes_on : {at n nowhere : ℕ} → LeadsOn stretch from at → at + 2 ≤ length stretch → 32768 < nowhere → n ≡ mark_from stretch at
      → LeadsOn stretch from (behind_packet at n nowhere)
  goes_on {at} {n} {nowhere} on r g e = record { alike = λ rest l. turn rest l ∙ on.alike rest l }
    where
      same : (rest : List ℕ) → mark_from (stretch ++ rest) at ≡ mark_from stretch at
      same rest = ap₂ (λ (x y : ℕ). x * 256 + y) (get_or-append stretch rest 0 at (omega arith)) (get_or-append stretch rest 0 (at + 1) (omega arith))

      turn : (rest : List ℕ) → length stretch + length rest ≤ 32768 → leads_to_end (stretch ++ rest) (behind_packet at n nowhere) ≡ leads_to_end (stretch ++ rest) at
      turn rest l = leads_on at n nowhere (stretch ++ rest) (rw length-append (omega arith)) (rw length-append (omega arith)) (e ∙ sym (same rest))

-- the last stretch: the place reached is compared with its end
pub last : {stretch : List ℕ} {from at : ℕ} → LeadsOn stretch from at → length stretch ≤ 32768 → length stretch ≤ at + 1
    → eqb at (length stretch) ≡ leads_to_end stretch from
last {stretch} {from} {at} on l h =
    at_end stretch at h ∙ subst (λ (bytes : List ℕ). leads_to_end bytes at ≡ leads_to_end bytes from) (append-nil stretch) (on.alike [] (omega arith))

-- behind a stretch the places are those of the rest
pub behind_stretch : (stretch rest : List ℕ) (k : ℕ) → leads_to_end rest k ≡ leads_to_end (stretch ++ rest) (length stretch + k)
unfolding leads_to_end
behind_stretch stretch rest k =
    let same = ap (λ (bytes : List ℕ). is_some (packets_in bytes)) (sym (drop-append-add stretch rest k)) in
    ap₂ (λ (a b : Bool). a && b) (go (lt_or_ge (length rest) k)) same
  where
    go : (length rest < k) ⊎ (k ≤ length rest) → leb k (length rest) ≡ leb (length stretch + k) (length (stretch ++ rest))
    go (inl l) = rw (lt-leb k (length rest) l, lt-leb (length stretch + k) (length (stretch ++ rest)) (rw length-append (omega arith)))
    go (inr l) = rw (le-leb k (length rest) l, le-leb (length stretch + k) (length (stretch ++ rest)) (rw length-append (omega arith)))

-- ---- the whole of the bytes

-- fewer than two bytes hold no mark
pub whole_short : (bytes : List ℕ) → length bytes < 2 → eqb (length bytes) 0 ≡ is_whole bytes
whole_short [] h = sym (whole_front [] (omega arith) ∙ whole_end [] 0 (omega arith))
whole_short (x ∷ bytes) h =
    ne_eqb (length (x ∷ bytes)) 0 (λ z. omega arith) ∙ sym (⊎_elim plain begun (lt_or_ge (mark_from (x ∷ bytes) 0) 32768))
  where
    plain : mark_from (x ∷ bytes) 0 < 32768 → is_whole (x ∷ bytes) ≡ false
    plain l = whole_front (x ∷ bytes) l ∙ runs_out (x ∷ bytes) 0 (omega arith)

    begun : 32768 ≤ mark_from (x ∷ bytes) 0 → is_whole (x ∷ bytes) ≡ false
    begun g =
        let n = mark_from (x ∷ bytes) 0 - 32768 in
        whole_begun (x ∷ bytes) g ∙ rw (lt-leb (0 + 2 + n) (length (x ∷ bytes)) (omega arith), and-false)

module _ (bytes : List ℕ) (mark : ℕ) (e : mark ≡ mark_from bytes 0) where
  pub not_begun : mark < 32768 → is_whole bytes ≡ whole_from bytes 0
  not_begun h = whole_front bytes (omega arith)

  pub begun_bad : 32768 ≤ mark → is_length_from 8999 (mark - 32768) bytes 0 ≡ false → is_whole bytes ≡ false
  begun_bad h t = whole_begun bytes (omega arith) ∙ rw (← e, t)

  pub begun_good : 32768 ≤ mark → is_length_from 8999 (mark - 32768) bytes 0 ≡ true → is_whole bytes ≡ whole_from bytes (2 + (mark - 32768))
  begun_good h t = whole_begun bytes (omega arith) ∙ rw (← e, t)
