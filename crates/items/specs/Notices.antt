-- The word of a notice, and the notice of a word.
use Rattle.std.specs.Prelude.{ℕ, ◌+◌, ◌*◌, ◌/◌, ◌%◌, ◌^◌, cond, ◌&&◌, eqb, ltb}
use Rattle.std.specs.Int.{w32}
use Rattle.std.proofs.Common.{to_z, of_z}
use Rattle.items.specs.declared.notice.Notice.{Notice}
use Rattle.items.specs.declared.notice.Notice.TheVariants.{Nothing, SilentProbe, Battery, ClockShift}

-- the number in bits 0 to 7, the probe from bit 16, the value from bit 32
abbrev pub notice_word : Notice → ℕ
notice_word Nothing = 0
notice_word (SilentProbe probe) = 1 + 2 ^ 16 * probe
notice_word (Battery probe millivolts) = 2 + 2 ^ 16 * probe + 2 ^ 32 * millivolts
notice_word (ClockShift seconds) = 3 + 2 ^ 32 * of_z w32 seconds

abbrev pub no_notice : Notice
no_notice = Nothing

-- the notice of bits 0 to 15, of the probe and of the value; what is no notice's word reads as nothing
abbrev pub notice_by : ℕ → ℕ → ℕ → Notice
notice_by number probe value =
    cond (eqb number 1 && eqb value 0) (SilentProbe probe)
    (cond (eqb number 2 && ltb value (2 ^ 16)) (Battery probe value)
    (cond (eqb number 3 && eqb probe 0) (ClockShift (to_z w32 value)) Nothing))

abbrev pub notice_of : ℕ → Notice
notice_of w = notice_by (w % 2 ^ 16) (w / 2 ^ 16 % 2 ^ 16) (w / 2 ^ 32 % 2 ^ 32)
