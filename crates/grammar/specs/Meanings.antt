-- What the lines of a plan stand for.
use Rattle.std.specs.Prelude.{ℕ, ◌%◌, ◌^◌, List, map, replicate, pos}
use Rattle.std.specs.List.{flat_map, enumerate_from}
use Rattle.items.specs.declared.reading.Reading.{Reading}
use Rattle.grammar.specs.declared.plan.Stretch.{Stretch}

-- item j of a probe; a plan in form has at most 64 items, so that j is below 2^16
abbrev pub item_of : ℕ → ℕ → Reading
item_of j probe = record { probe = probe; sequence = j % 2 ^ 16; level = pos 0 }

-- the items of a plan's probes, counted from 0
abbrev pub items_of : List ℕ → List Reading
items_of probes = map (λ p. item_of p.0 p.1) (enumerate_from 0 probes)

-- the party of each turn, one stretch after the other
abbrev pub turns_of : List Stretch → List ℕ
turns_of stretches = flat_map (λ (s : Stretch). replicate s.count s.party) stretches
