-- Sizes that paper 01 names, in bytes, and the bits of its marks: each stands here once. `crates/basics/src/sizes.rt` has those that the code needs.
use Rattle.std.specs.Prelude.{ℕ, ◌+◌}

-- the data of a frame, and a frame on the wire ("The frame on the wire")
abbrev pub area_size : ℕ
area_size = 1908

abbrev pub frame_size : ℕ
frame_size = 2081

-- the longest packet ("Packing"), and the most of one that is held or still unsent while a byte of it is missing
abbrev pub most_packet : ℕ
most_packet = 9000

abbrev pub most_held : ℕ
most_held = 8999

-- the lent buffers: the queue, the hold, and the list with room for what is held and an area ("Refusal numbers")
abbrev pub queue_size : ℕ
queue_size = 32768

abbrev pub hold_size : ℕ
hold_size = 9000

abbrev pub list_size : ℕ
list_size = most_held + area_size

-- how many numbers frames have: 65,535 is followed by 0
abbrev pub frame_numbers : ℕ
frame_numbers = 65536

-- bit 15 and bit 14 of a record's mark, and bit 15 of a mark in the queue
abbrev pub first_bit : ℕ
first_bit = 32768

abbrev pub last_bit : ℕ
last_bit = 16384

abbrev pub begun_bit : ℕ
begun_bit = 32768
