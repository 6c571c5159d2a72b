-- Places in a text: the byte that is next, the line, and the part between two places.
use Rattle.std.proofs.Common.{◌≡◌, ℕ, ◌+◌, ◌-◌, ◌<◌, ◌≤◌, eqb, List, [], ◌∷◌, ◌++◌, length, get_or, take, drop, sym, ap, ◌∙◌, subst, ⊎_elim, arith, length-append, length-drop, take-append-drop}
use Rattle.std.proofs.lemmas.List.{drop_more, drop_all, drop-drop, take_all, take_at, length-take-le}
use Rattle.std.proofs.lemmas.List.Sums.{prefix_len-le-length, count_by_more_yes, count_by_more_no}
use Rattle.std.proofs.lemmas.Bool.{cases_lt, eq-eqb, ne_eqb}
use Rattle.std.specs.Char.{is_ascii_digit}
use Rattle.std.specs.List.{prefix_len, take_while}
use Rattle.grammar.proofs.Digits.{digits_first, digits_end}
use Rattle.grammar.specs.Scans.{line_at, AllDigits, NoDigitNext, NextIs}

pub next_at : (t : List ℕ) (i b : ℕ) → i < length t → (get_or t i 0 ≡ b → NextIs b (drop i t)) × (NextIs b (drop i t) → get_or t i 0 ≡ b)
next_at t i b h = let e = drop_more t i 0 h in (λ p. subst (NextIs b) (sym e) p, λ n. subst (NextIs b) e n)

pub next_past : (t : List ℕ) (i b : ℕ) → length t ≤ i → NextIs b (drop i t) → ⊥
next_past t i b h n = subst (NextIs b) (drop_all i t h) n

pub next_within : (t : List ℕ) (i b : ℕ) → NextIs b (drop i t) → i < length t
next_within t i b n = ⊎_elim (λ h. h) (λ h. absurd (next_past t i b h n)) (cases_lt i (length t))

pub next_cut : (t : List ℕ) (i b : ℕ) → NextIs b (drop i t) → drop i t ≡ b ∷ drop (i + 1) t
next_cut t i b n =
    let h = next_within t i b n in drop_more t i 0 h ∙ ap (λ x. x ∷ drop (i + 1) t) ((next_at t i b h).1 n)

-- the part from a to b, and what is left
pub part_rest : (t : List ℕ) (a b : ℕ) → a ≤ b → drop a t ≡ take (b - a) (drop a t) ++ drop b t
part_rest t a b h =
    let n : a + (b - a) ≡ b = omega arith in
    sym (take-append-drop (b - a) (drop a t)) ∙ ap (λ l. take (b - a) (drop a t) ++ l) (drop-drop (b - a) a t ∙ ap (λ k. drop k t) n)

pub part_is : (t ds : List ℕ) (a b : ℕ) → a ≤ b → b ≤ length t → drop a t ≡ ds ++ drop b t → take (b - a) (drop a t) ≡ ds
part_is t ds a b h k e =
    let n : length ds ≡ b - a = omega (arith, ap length e ∙ length-append ds (drop b t), length-drop a t, length-drop b t) in
    ap (take (b - a)) e ∙ take_at ds (drop b t) (b - a) n

pub line_feed : (t : List ℕ) (i : ℕ) → i < length t → get_or t i 0 ≡ 10 → line_at t (i + 1) ≡ line_at t i + 1
line_feed t i h e = ap (λ n. n + 1) (count_by_more_yes (λ b. eqb b 10) t i 0 h (eq-eqb _ 10 e))

pub line_same : (t : List ℕ) (i : ℕ) → i < length t → (get_or t i 0 ≡ 10 → ⊥) → line_at t (i + 1) ≡ line_at t i
line_same t i h n = ap (λ n. n + 1) (count_by_more_no (λ b. eqb b 10) t i 0 h (ne_eqb _ 10 n))

-- no line feed is among digits
pub line_past : (t : List ℕ) (i : ℕ) (ds rest : List ℕ) → AllDigits ds → drop i t ≡ ds ++ rest → line_at t (i + length ds) ≡ line_at t i
line_past t i [] rest f e = let z : i + 0 ≡ i = omega arith in ap (line_at t) z
line_past t i (d ∷ ds) rest f e =
    let here : i < length t = omega (arith, ap length e, length-drop i t) in
    let next = sym (drop_more t i 0 here) ∙ e in
    let at : get_or t i 0 ≡ d = cc in
    let after : drop (i + 1) t ≡ ds ++ rest = cc in
    let n : i + length (d ∷ ds) ≡ (i + 1) + length ds = omega arith in
    ap (line_at t) n ∙ line_past t (i + 1) ds rest f.2 after ∙ line_same t i here (λ z. omega (arith, f.0))

-- the digits that are next, as they lie in a slice of the rest
pub record DigitsNext (t : List ℕ) (i n : ℕ) : Type 0 where
  pub within : i + n ≤ length t
  pub digits : AllDigits (take n (take (length t - i) (drop i t)))
  pub cut : drop i t ≡ take n (take (length t - i) (drop i t)) ++ drop (i + n) t
  pub ended : NoDigitNext (drop (i + n) t)
  pub line : line_at t (i + n) ≡ line_at t i

pub digits_next : (t : List ℕ) (i n : ℕ) → i ≤ length t → n ≡ prefix_len is_ascii_digit (take (length t - i) (drop i t)) → DigitsNext t i n
digits_next t i n h e =
    let whole : take (length t - i) (drop i t) ≡ drop i t = take_all (length t - i) (drop i t) (omega (arith, length-drop i t)) in
    let m : n ≡ prefix_len is_ascii_digit (drop i t) = e ∙ ap (prefix_len is_ascii_digit) whole in
    let few : n ≤ length (drop i t) = omega (arith, prefix_len-le-length is_ascii_digit (drop i t), m) in
    let ds : take_while is_ascii_digit (drop i t) ≡ take n (take (length t - i) (drop i t)) = λ j. take (sym m j) (sym whole j) in
    let digits = subst AllDigits ds (digits_first (drop i t)) in
    let cut : drop i t ≡ take n (take (length t - i) (drop i t)) ++ drop (i + n) t =
    sym (take-append-drop n (drop i t)) ∙ (λ j. take n (sym whole j) ++ drop-drop n i t j) in
    let long : length (take n (take (length t - i) (drop i t))) ≡ n = ap (λ l. length (take n l)) whole ∙ length-take-le n (drop i t) few in
    record {
      within = omega (arith, length-drop i t);
      digits = digits;
      cut = cut;
      ended = subst NoDigitNext (ap (λ k. drop k (drop i t)) (sym m) ∙ drop-drop n i t) (digits_end (drop i t));
      line = ap (λ k. line_at t (i + k)) (sym long) ∙ line_past t i (take n (take (length t - i) (drop i t))) (drop (i + n) t) digits cut;
    }
