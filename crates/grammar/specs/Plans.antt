-- Which text is in form, by which plan, and where a text out of form has its first bad line.
use Rattle.std.specs.Prelude.{◌≡◌, ℕ, ◌+◌, ◌-◌, ◌^◌, ◌<◌, ◌≤◌, List, [], ◌∷◌, ◌++◌, map, length}
use Rattle.std.specs.List.{AllByRecursion}
use Rattle.grammar.specs.declared.plan.Header.{Header}
use Rattle.grammar.specs.declared.plan.Stretch.{Stretch}
use Rattle.grammar.specs.Lines.{Token, number, turns, line_text}

-- what a text says
pub record PlanModel : Type 0 where
  pub header : Header
  pub probes : List ℕ
  pub stretches : List Stretch

-- the limits of line 1
pub record HeaderFits (h : Header) : Type 0 where
  pub some_cells : 1 ≤ h.cells
  pub most_cells : h.cells ≤ 64
  pub some_workers : 1 ≤ h.workers
  pub most_workers : h.workers ≤ 8
  pub low_start : h.start < 2 ^ 40

-- the limits of line 2
pub record ProbesFit (probes : List ℕ) : Type 0 where
  pub few : length probes ≤ 64
  pub each : AllByRecursion (λ probe. probe ≤ 65535) probes

-- the turns of all stretches
abbrev pub turn_count : List Stretch → ℕ
turn_count [] = 0
turn_count (s ∷ ss) = s.count + turn_count ss

-- the limits of line 3, for so many workers
pub record StretchesFit (workers : ℕ) (stretches : List Stretch) : Type 0 where
  pub few : length stretches ≤ 64
  pub each : AllByRecursion (λ s. (s.party ≤ workers) × (1 ≤ s.count)) stretches
  pub in_all : turn_count stretches ≤ 4096

-- the words of each line
abbrev pub header_words : Header → List Token
header_words h = number h.cells ∷ number h.workers ∷ number h.start ∷ []

abbrev pub probe_words : List ℕ → List Token
probe_words probes = map number probes

abbrev pub stretch_word : Stretch → Token
stretch_word s = turns s.party s.count

abbrev pub stretch_words : List Stretch → List Token
stretch_words stretches = map stretch_word stretches

-- a plan as text
abbrev pub plan_text : PlanModel → List ℕ
plan_text p = line_text (header_words p.header) ++ (line_text (probe_words p.probes) ++ line_text (stretch_words p.stretches))

-- the plan is within its limits, and this is its text
pub record InForm (text : List ℕ) (p : PlanModel) : Type 0 where
  pub header : HeaderFits p.header
  pub probes : ProbesFit p.probes
  pub stretches : StretchesFit p.header.workers p.stretches
  pub rendered : text ≡ plan_text p

-- the text begins with so many good lines; the fourth is good if the text ends after the third
pub data GoodLines (text : List ℕ) : ℕ → Type 0 where
  none : GoodLines text 0
  one : (h : Header) (rest : List ℕ) → HeaderFits h → text ≡ line_text (header_words h) ++ rest → GoodLines text 1
  two : (h : Header) (ps rest : List ℕ) → HeaderFits h → ProbesFit ps →
      text ≡ line_text (header_words h) ++ (line_text (probe_words ps) ++ rest) → GoodLines text 2
  three : (p : PlanModel) (front rest : List ℕ) → InForm front p → text ≡ front ++ rest → GoodLines text 3
  all : (p : PlanModel) → InForm text p → GoodLines text 4

-- the lines before this one are good, and with it they are not
pub record FirstBad (text : List ℕ) (line : ℕ) : Type 0 where
  pub most : line ≤ 4
  pub before : GoodLines text (line - 1)
  pub here : GoodLines text line → ⊥

-- a text is in form by one plan or has one first bad line, and not both
pub record OneReading (text : List ℕ) : Type 0 where
  pub plan : (p q : PlanModel) → InForm text p → InForm text q → p ≡ q
  pub line : (k l : ℕ) → FirstBad text k → FirstBad text l → k ≡ l
  pub either : (p : PlanModel) (k : ℕ) → InForm text p → FirstBad text k → ⊥
