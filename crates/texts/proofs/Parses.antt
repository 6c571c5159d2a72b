-- From a line that was read to what it says.
use Rattle.std.proofs.Common.{◌≡◌, ℕ, ◌+◌, List, [], ◌∷◌, ◌++◌, map, length, drop, Some, None, Ok, Err, Option, Result, sym, refl, ap, ◌∙◌, subst}
use Rattle.std.specs.Option.{ok_or}
use Rattle.std.specs.List.{AllByRecursion}
use Rattle.grammar.specs.declared.plan.Header.{Header}
use Rattle.grammar.specs.declared.plan.Stretch.{Stretch}
use Rattle.grammar.specs.Lines.{Token, line_text}
use Rattle.grammar.specs.Plans.{HeaderFits, ProbesFit, StretchesFit, header_words, probe_words, stretch_words, InForm, FirstBad}
use Rattle.grammar.specs.Scans.{Small, NoLineOf, Says}
use Rattle.grammar.proofs.Lines.{one_line}
use Rattle.grammar.proofs.Plans.{bad_first, bad_second, bad_third, bad_fourth, whole_text}
use Rattle.texts.specs.declared.fault.ParseFault.{ParseFault}
use Rattle.texts.specs.declared.fault.ParseFault.TheVariants.{Text, NoMemory}
use Rattle.texts.specs.declared.fault.TextFault.TheVariants.{BadLine}
use Rattle.texts.specs.declared.lexer.Lexer.{Lexer}
use Rattle.texts.specs.declared.plan.Plan.{Plan}
use Rattle.texts.specs.declared.word.Word.{Word}
use Rattle.texts.specs.Parsing.{bad_line, Parsed, FormPassed, FormRead, LineParsed, EndParsed}
use Rattle.texts.specs.Parsing.FormRead.{said, unsaid, broken, no_memory}
use Rattle.texts.specs.Words.{token_of, whole, left, Start, InLine, LinePassed}

all_small : (t : List ℕ) (k : ℕ) (ws : List Word) → AllByRecursion (InLine t k) ws → AllByRecursion Small (map token_of ws)
all_small t k [] h = tt
all_small t k (w ∷ ws) h = (h.0.part.small, all_small t k ws h.1)

-- what a form gave of the words of a line
pub form_gave : {B E : Type 0} (gives : List Word → Result (Option B) E → Type 0) (old new : Lexer) (bad : ParseFault) → bad ≡ bad_line old.line →
    (ws : List Word) (o : Option B) (r : Result B ParseFault) → LinePassed old ws new → gives ws (Ok o) → r ≡ ok_or o bad → FormRead gives old r new
form_gave gives old new bad is ws (Some b) r l s e = said ws b l s e
form_gave gives old new bad is ws None r l s e = unsaid ws l s (e ∙ ap Err is)

-- where the form says what the words say
pub line_parsed : {A B E : Type 0} (Fits : A → Type 0) (words : A → List Token) (value : B → A) → ((a : A) → Fits a → AllByRecursion Small (words a)) →
    {gives : List Word → Result (Option B) E → Type 0} {old : Lexer} {r : Result B ParseFault} {new : Lexer} → FormRead gives old r new →
    ((ws : List Word) (o : Option B) → gives ws (Ok o) → Says Fits words value (map token_of ws) o) → LineParsed Fits words value old r new
line_parsed Fits words value small {old = old} {new = new} (said ws b l g e) says =
    let s = says ws (Some b) g in
    let passed : FormPassed Fits words old (value b) new = record { moved = l.moved; line = l.line; fits = s.0; cut = l.cut ∙ ap (λ t. line_text t ++ left new) s.1 } in
    subst (λ x. LineParsed Fits words value old x new) (sym e) passed
line_parsed Fits words value small {old = old} {new = new} (unsaid ws l g e) says =
    subst (λ x. LineParsed Fits words value old x new) (sym e)
    (refl, λ a rest f c. says ws None g a f (one_line (map token_of ws) (words a) (left new) rest (all_small (whole old) old.line ws l.words) (small a f) (sym l.cut ∙ c)).0)
line_parsed Fits words value small {old = old} {new = new} (broken n e) says =
    subst (λ x. LineParsed Fits words value old x new) (sym e) (refl, λ a rest f c. n (words a) rest (small a f) c)
line_parsed Fits words value small {old = old} {new = new} (no_memory e) says = subst (λ x. LineParsed Fits words value old x new) (sym e) tt

-- the lines of a text, one after the other; a fault is that of the line where it came
module _ (text : List ℕ) (l₀ : Lexer) (s : Start text l₀) where
  from_start : left l₀ ≡ text
  from_start = λ i. drop (s.place i) (s.text i)

  pub header_fault : (l₁ : Lexer) (f : ParseFault) → LineParsed {B = Header} HeaderFits header_words (λ h. h) l₀ (Err f) l₁ → Parsed text (Err f)
  header_fault l₁ NoMemory b = tt
  header_fault l₁ (Text (BadLine k)) b =
      subst (FirstBad text) (sym (b.0 ∙ s.line)) (bad_first text (subst (NoLineOf HeaderFits header_words) from_start b.1))

  module _ (h : Header) (l₁ : Lexer) (a₁ : FormPassed HeaderFits header_words l₀ h l₁) where
    cut₁ : text ≡ line_text (header_words h) ++ left l₁
    cut₁ = sym from_start ∙ a₁.cut

    line₁ : l₁.line ≡ 2
    line₁ = a₁.line ∙ ap (λ n. n + 1) s.line

    pub probes_fault : {B : Type 0} (value : B → List ℕ) (l₂ : Lexer) (f : ParseFault) → LineParsed ProbesFit probe_words value l₁ (Err f) l₂ →
        Parsed text (Err f)
    probes_fault value l₂ NoMemory b = tt
    probes_fault value l₂ (Text (BadLine k)) b =
        subst (FirstBad text) (sym (b.0 ∙ line₁)) (bad_second text h (left l₁) a₁.fits cut₁ b.1)

    module _ (ps : List ℕ) (l₂ : Lexer) (a₂ : FormPassed ProbesFit probe_words l₁ ps l₂) where
      line₂ : l₂.line ≡ 3
      line₂ = a₂.line ∙ ap (λ n. n + 1) line₁

      pub stretches_fault : {B : Type 0} (value : B → List Stretch) (l₃ : Lexer) (f : ParseFault) →
          LineParsed (StretchesFit h.workers) stretch_words value l₂ (Err f) l₃ → Parsed text (Err f)
      stretches_fault value l₃ NoMemory b = tt
      stretches_fault value l₃ (Text (BadLine k)) b =
          subst (FirstBad text) (sym (b.0 ∙ line₂)) (bad_third text h (left l₁) a₁.fits cut₁ ps (left l₂) a₂.fits a₂.cut b.1)

      module _ (ss : List Stretch) (l₃ : Lexer) (a₃ : FormPassed (StretchesFit h.workers) stretch_words l₂ ss l₃) where
        pub end_fault : (f : ParseFault) → EndParsed l₃ (Err f) → Parsed text (Err f)
        end_fault NoMemory b = tt
        end_fault (Text (BadLine k)) b =
            subst (FirstBad text) (sym (b.0 ∙ a₃.line ∙ ap (λ n. n + 1) line₂))
            (bad_fourth text h (left l₁) a₁.fits cut₁ ps (left l₂) a₂.fits a₂.cut ss (left l₃) a₃.fits a₃.cut b.1)

        pub all_read : length (left l₃) ≡ 0 → InForm text (record { header = h; probes = ps; stretches = ss })
        all_read e = whole_text text h (left l₁) a₁.fits cut₁ ps (left l₂) a₂.fits a₂.cut ss (left l₃) a₃.fits a₃.cut e

-- what the exit of a `?` returns
pub fault_out : (text : List ℕ) (r : Result Plan ParseFault) (x f : ParseFault) → r ≡ Err x → x ≡ f → Parsed text (Err f) →
    Parsed text r
fault_out text r x f e g p = subst (Parsed text) (sym (e ∙ ap Err g)) p
