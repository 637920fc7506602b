-- A message of the fast channel as an opcode and three numbers (Tables 2-12 and 2-13; 01, "Fast channel"). A number that a message does not have is 0.
use Rattle.std.specs.Prelude.{Bool, cond, ◌&&◌, ℕ, ◌%◌, eqb, leb}
use Rattle.fast_channel.specs.FastChannel.{lock_number, lock_of}
use Rattle.fast_channel.specs.declared.FastChannel.{FastChannel}
use Rattle.fast_channel.specs.declared.FastChannel.TheVariants.{CrcErrors, ReceivedPower, PowerStatistics, SyncLosses, PowerRange}
use Rattle.fast_channel.specs.declared.FastChannel.TheVariants.{Version, CorrectedFrames, Reserved, Absent}
use Rattle.flat.specs.declared.messages.FlatMessage.{FlatMessage}

-- ---- to C

abbrev pub flat_message : FastChannel → FlatMessage
flat_message (CrcErrors errors) = record { opcode = 0; first = errors; second = 0; third = 0 }
flat_message (ReceivedPower power lock) = record { opcode = 1; first = power; second = lock_number lock; third = 0 }
flat_message (PowerStatistics mean deviation) = record { opcode = 2; first = mean; second = deviation; third = 0 }
flat_message (SyncLosses losses lock) = record { opcode = 3; first = losses; second = lock_number lock; third = 0 }
flat_message (PowerRange least greatest) = record { opcode = 4; first = least; second = greatest; third = 0 }
flat_message (Version major minor patch) = record { opcode = 5; first = major; second = minor; third = patch }
flat_message (CorrectedFrames frames) = record { opcode = 6; first = frames; second = 0; third = 0 }
flat_message (Reserved opcode) = record { opcode = opcode; first = 0; second = 0; third = 0 }
flat_message Absent = record { opcode = 15; first = 0; second = 0; third = 0 }

-- ---- from C

-- the greatest value of each number, by its bits; 0 where the message has no such number
unfoldable pub first_most : ℕ → ℕ
first_most opcode =
    cond (eqb opcode 0) 65535
    (cond (eqb opcode 1) 16383
    (cond (eqb opcode 2) 255
    (cond (eqb opcode 3) 16383
    (cond (eqb opcode 4) 255
    (cond (eqb opcode 5) 31
    (cond (eqb opcode 6) 65535 0))))))

unfoldable pub second_most : ℕ → ℕ
second_most opcode =
    cond (eqb opcode 1) 1
    (cond (eqb opcode 2) 255
    (cond (eqb opcode 3) 1
    (cond (eqb opcode 4) 255
    (cond (eqb opcode 5) 31 0))))

unfoldable pub third_most : ℕ → ℕ
third_most opcode = cond (eqb opcode 5) 63 0

-- the numbers stand for a message that may be sent
unfoldable pub numbers_fit : FlatMessage → Bool
numbers_fit flat =
    leb flat.opcode 15
    && leb flat.first (first_most flat.opcode)
    && leb flat.second (second_most flat.opcode)
    && leb flat.third (third_most flat.opcode)

-- the message that they stand for; it is asked for only where they fit, and a number of one byte is cut off otherwise
unfoldable pub message_of : FlatMessage → FastChannel
message_of flat =
    cond (eqb flat.opcode 0) (CrcErrors flat.first)
    (cond (eqb flat.opcode 1) (ReceivedPower flat.first (lock_of flat.second))
    (cond (eqb flat.opcode 2) (PowerStatistics (flat.first % 256) (flat.second % 256))
    (cond (eqb flat.opcode 3) (SyncLosses flat.first (lock_of flat.second))
    (cond (eqb flat.opcode 4) (PowerRange (flat.first % 256) (flat.second % 256))
    (cond (eqb flat.opcode 5) (Version (flat.first % 256) (flat.second % 256) (flat.third % 256))
    (cond (eqb flat.opcode 6) (CorrectedFrames flat.first)
    (cond (eqb flat.opcode 15) Absent (Reserved flat.opcode))))))))
