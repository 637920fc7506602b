-- The messages of the fast channel (Tables 2-12 and 2-13; 01, "The frame on the wire"): the opcode and the 16 bits of payload of each of the nine kinds,
-- which numbers fit, and the message that a receiver reads.
use Rattle.std.specs.Prelude.{Bool, true, cond, ◌&&◌, ◌||◌, ℕ, ◌+◌, ◌*◌, ◌/◌, ◌%◌, eqb, ltb, leb}
use Rattle.basics.specs.Numbers.{fits_bits}
use Rattle.fast_channel.specs.declared.Lock.{Lock}
use Rattle.fast_channel.specs.declared.Lock.TheVariants.{NotLocked, Locked}
use Rattle.fast_channel.specs.declared.FastChannel.{FastChannel}
use Rattle.fast_channel.specs.declared.FastChannel.TheVariants.{CrcErrors, ReceivedPower, PowerStatistics, SyncLosses, PowerRange}
use Rattle.fast_channel.specs.declared.FastChannel.TheVariants.{Version, CorrectedFrames, Reserved, Absent}

abbrev pub lock_number : Lock → ℕ
lock_number NotLocked = 0
lock_number Locked = 1

-- ---- sent

-- 14 bits (15-2), then the lock
abbrev pub with_lock : ℕ → Lock → ℕ
with_lock number lock = 4 * (number % 16384) + lock_number lock

abbrev pub opcode_of : FastChannel → ℕ
opcode_of (CrcErrors errors) = 0
opcode_of (ReceivedPower power lock) = 1
opcode_of (PowerStatistics mean deviation) = 2
opcode_of (SyncLosses losses lock) = 3
opcode_of (PowerRange least greatest) = 4
opcode_of (Version major minor patch) = 5
opcode_of (CorrectedFrames frames) = 6
opcode_of (Reserved opcode) = opcode
opcode_of Absent = 15

-- the numbers from the top bit down; one that is too large for its bits is cut off, and is refused before it is sent
abbrev pub payload_of : FastChannel → ℕ
payload_of (CrcErrors errors) = errors
payload_of (ReceivedPower power lock) = with_lock power lock
payload_of (PowerStatistics mean deviation) = 256 * mean + deviation
payload_of (SyncLosses losses lock) = with_lock losses lock
payload_of (PowerRange least greatest) = 256 * least + greatest
payload_of (Version major minor patch) = 2048 * (major % 32) + 64 * (minor % 32) + patch % 64
payload_of (CorrectedFrames frames) = frames
payload_of (Reserved opcode) = 0
payload_of Absent = 0xFFFF

-- no number of the message is too large for its bits, and a reserved opcode is one of 7 to 14
abbrev pub message_fits : FastChannel → Bool
message_fits (CrcErrors errors) = fits_bits 16 errors
message_fits (ReceivedPower power lock) = fits_bits 14 power
message_fits (PowerStatistics mean deviation) = fits_bits 8 mean && fits_bits 8 deviation
message_fits (SyncLosses losses lock) = fits_bits 14 losses
message_fits (PowerRange least greatest) = fits_bits 8 least && fits_bits 8 greatest
message_fits (Version major minor patch) = fits_bits 5 major && fits_bits 5 minor && fits_bits 6 patch
message_fits (CorrectedFrames frames) = fits_bits 16 frames
message_fits (Reserved opcode) = leb 7 opcode && leb opcode 14
message_fits Absent = true

-- ---- received

abbrev pub lock_of : ℕ → Lock
lock_of number = cond (eqb number 0) NotLocked Locked

unfoldable pub message_of : ℕ → ℕ → FastChannel
message_of opcode payload =
    cond (eqb opcode 0) (CrcErrors payload)
    (cond (eqb opcode 1) (ReceivedPower (payload / 4) (lock_of (payload % 4)))
    (cond (eqb opcode 2) (PowerStatistics (payload / 256) (payload % 256))
    (cond (eqb opcode 3) (SyncLosses (payload / 4) (lock_of (payload % 4)))
    (cond (eqb opcode 4) (PowerRange (payload / 256) (payload % 256))
    (cond (eqb opcode 5) (Version (payload / 2048) (payload / 64 % 32) (payload % 64))
    (cond (eqb opcode 6) (CorrectedFrames payload)
    (cond (eqb opcode 15) Absent (Reserved opcode))))))))

-- lock is 0 or 1; the payload of an absent message is FFFF, and of a reserved one 0
unfoldable pub payload_rule : ℕ → ℕ → Bool
payload_rule opcode payload =
    cond (eqb opcode 1 || eqb opcode 3) (ltb (payload % 4) 2)
    (cond (leb opcode 6) true
    (cond (eqb opcode 15) (eqb payload 0xFFFF) (eqb payload 0)))
