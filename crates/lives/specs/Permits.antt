-- Which permit a life holds, and what it is good for once the life is over.
use Rattle.std.specs.Prelude.{ℤ, pos, Some, None, Option}
use Rattle.protocol.specs.State.{Permit, free, full, spent}
use Rattle.lives.specs.declared.held.Held.{Held}
use Rattle.lives.specs.declared.held.Held.TheVariants.{Free, Full, Spent}

abbrev pub permit_of : Held → Permit
permit_of (Free p) = free
permit_of (Full p) = full
permit_of Spent = spent

-- the end mark of a spare queue that is closed with the permit
abbrev pub spare_mark : Permit → Option ℤ
spare_mark free = Some (pos 0)
spare_mark full = Some (pos 0)
spare_mark spent = None
