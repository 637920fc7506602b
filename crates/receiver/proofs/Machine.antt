-- The bridge to the proof of demand 3: what the contract of `apply` says of the records of a frame is what `receive` of crate link says of its pieces.
use mathlib.Core.Path.{◌≡◌}
use mathlib.Core.Bool.{true, false}
use mathlib.Core.Option.{some}
use mathlib.Core.List.{List}
use Prim.Native.Nat.{ℕ}
use lib.ListN.{take}
use Rattle.basics.specs.Counts.{next_txfn}
use Rattle.link.specs.Link as link
use Rattle.link.proofs.Machine as machine
use Rattle.header.specs.declared.Header.{Header}
use Rattle.receiver.specs.declared.Receiver.{Receiver}
use Rattle.receiver.specs.Applying.{expected_number, pieces_of, missed_count, held_part, joined}

-- the receiver of crate link that a state and the hold's bytes stand for
abbrev pub standing : Receiver → List ℕ → machine.Receiver
standing receiver hold = record { expected = expected_number receiver.expected; held = take receiver.held hold }

module _ (header : Header) (area : List ℕ) (receiver : Receiver) (hold : List ℕ) (pieces : List link.Piece)
    (are : pieces_of header.kind area ≡ some pieces) where
  pub joined_pieces : joined header area receiver hold ≡ link.on_pieces (held_part header receiver hold) pieces
  unfolding joined
  joined_pieces = rw are

  -- they fit: the frame is taken
  pub machine_takes : link.fits (held_part header receiver hold) pieces ≡ true
      → machine.receive (standing receiver hold) header.txfn.0 pieces
      ≡ record {
        answer = link.taken (missed_count header receiver) (joined header area receiver hold).out;
        state = record { expected = some (next_txfn header.txfn.0); held = (joined header area receiver hold).held };
      }
  unfolding machine.receive
  machine_takes e = rw (e, joined_pieces)

  -- they do not: 15, and the state stays
  pub machine_refuses : link.fits (held_part header receiver hold) pieces ≡ false
      → machine.receive (standing receiver hold) header.txfn.0 pieces ≡ record { answer = link.refused 15; state = standing receiver hold }
  unfolding machine.receive
  machine_refuses e = rw e
