-- The word of a reading, and the reading of a word.
use Rattle.std.specs.Prelude.{ℕ, ◌+◌, ◌*◌, ◌/◌, ◌%◌, ◌^◌, pos}
use Rattle.std.specs.Int.{w32}
use Rattle.std.proofs.Common.{to_z, of_z}
use Rattle.items.specs.declared.reading.Reading.{Reading}

-- `of_z w32` is a level modulo 2^32
abbrev pub reading_word : Reading → ℕ
reading_word r = r.probe + 2 ^ 16 * r.sequence + 2 ^ 32 * of_z w32 r.level

-- `to_z w32` reads 32 bits in two's complement
abbrev pub reading_of : ℕ → Reading
reading_of w = record { probe = w % 2 ^ 16; sequence = w / 2 ^ 16 % 2 ^ 16; level = to_z w32 (w / 2 ^ 32 % 2 ^ 32) }

abbrev pub zero_reading : Reading
zero_reading = record { probe = 0; sequence = 0; level = pos 0 }
