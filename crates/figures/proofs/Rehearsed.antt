-- The known rehearsal: its text is in form, and what is printed of it is computed.
use Rattle.std.proofs.Common.{◌≡◌, [], ◌∷◌, codes, refl, arith, rules}
use Rattle.std.specs.Fmt.{digits}
use Rattle.grammar.specs.Plans.{PlanModel, InForm}
use Rattle.rehearsals.specs.Outputs.{staged, plan_rehearsal, ended_text, Printed}
use Rattle.rehearsals.specs.Outputs.Printed.{of_plan}

abbrev plan : PlanModel
plan =
    record {
      header = record { cells = 2; workers = 2; start = 0 };
      probes = 5 ∷ 6 ∷ 7 ∷ [];
      stretches =
          record { party = 0; count = 13 } ∷ record { party = 1; count = 4 } ∷ record { party = 0; count = 3 } ∷ record { party = 2; count = 4 }
          ∷ record { party = 1; count = 12 } ∷ [];
    }

in_form : InForm (codes "2 2 0\n5 6 7\n0:13 1:4 0:3 2:4 1:12\n") plan
unfolding digits
in_form =
    record {
      header = record { some_cells = omega arith; most_cells = omega arith; some_workers = omega arith; most_workers = omega arith; low_start = omega arith };
      probes = record { few = omega arith; each = search rules };
      stretches = record { few = omega arith; each = search rules; in_all = omega arith };
      rendered = refl;
    }

printed : codes "0 0 5 0 0\n1 1 6 1 0\n4 0 7 2 0\nend 5\n" ≡ ended_text (plan_rehearsal plan)
unfolding staged digits
printed = refl

pub known_rehearsal : Printed (codes "2 2 0\n5 6 7\n0:13 1:4 0:3 2:4 1:12\n") (codes "0 0 5 0 0\n1 1 6 1 0\n4 0 7 2 0\nend 5\n")
known_rehearsal = of_plan plan in_form printed
