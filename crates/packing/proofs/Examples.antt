-- Areas that are refused, by example: the slips that the rules invite.
use mathlib.Core.Path.{◌≡◌, refl}
use mathlib.Core.Option.{none}
use mathlib.Core.List.{◌∷◌}
use Rattle.basics.specs.Lists.{zeros}
use Rattle.marks.specs.Mark.{may_begin, may_end, is_mark}
use Rattle.packing.specs.Records.{end_at, record_at, read_from, read}

-- zeros only; 80 00, which is no mark of 0; a record without "last" that does not end the area; one behind another that lacks "first";
-- a byte behind the records
no_record : read (zeros 1908) ≡ none
unfolding read read_from record_at end_at is_mark may_begin may_end
no_record = refl

no_end : read (192 ∷ 1 ∷ 170 ∷ 128 ∷ zeros 1904) ≡ none
unfolding read read_from record_at end_at is_mark may_begin may_end
no_end = refl

not_last : read (128 ∷ 1 ∷ 170 ∷ zeros 1905) ≡ none
unfolding read read_from record_at end_at is_mark may_begin may_end
not_last = refl

not_first : read (192 ∷ 1 ∷ 170 ∷ 64 ∷ 1 ∷ 170 ∷ zeros 1902) ≡ none
unfolding read read_from record_at end_at is_mark may_begin may_end
not_first = refl

not_zeros : read (192 ∷ 1 ∷ 170 ∷ 0 ∷ 0 ∷ 170 ∷ zeros 1902) ≡ none
unfolding read read_from record_at end_at is_mark may_begin may_end
not_zeros = refl
