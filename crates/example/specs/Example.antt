-- What the example memory holds.
use Rattle.std.specs.Prelude.{◌≡◌, ℕ, List, pos, negsuc, Result, MatchResult}
use Rattle.items.specs.declared.reading.Reading.{Reading}
use Rattle.items.specs.Readings.{reading_word, zero_reading}
use Rattle.stores.specs.declared.refusal.Layer.{Layer}
use Rattle.stores.specs.Refusals.{Reason, reason_by}
use Rattle.stores.specs.Model.{Contents, cleared, with_item, with_rank, with_gap, with_head}
use Rattle.layout.specs.Image.{in_words, image}

-- the item in cell i, under the rank of that number
abbrev pub announced : Contents Reading → ℕ → Reading → Contents Reading
announced m i x = with_rank zero_reading (with_item zero_reading m i x) i (pos i)

abbrev pub example_contents : Contents Reading
example_contents =
    with_head
    (with_gap zero_reading
    (announced
    (announced (cleared zero_reading 30 0) 3 (record { probe = 41; sequence = 7; level = negsuc 249 }))
    24 (record { probe = 12; sequence = 65535; level = pos 1830 }))
    5 (pos 5))
    1

unfoldable pub example_bytes : List ℕ
example_bytes = image (in_words reading_word example_contents)

-- the call was refused, since there is no cell i
abbrev pub NoCell : {V F : Type 0} → (F → Reason) → Layer → ℕ → Result V F → Type 0
NoCell reason layer i r = MatchResult r (λ _. ⊥) (λ f. reason f ≡ reason_by layer 1 i)
