-- What the store of one word of a block leaves: that word, the other words, the length.
use Rattle.std.proofs.Common.{◌≡◌, ℕ, ◌+◌, ◌*◌, ◌%◌, ◌^◌, ◌<◌, ◌≤◌, ◌⊎◌, List, length, ◌∙◌, inl, inr, ⊎_elim, arith}
use Rattle.std.proofs.lemmas.Bool.{cases_order}
use Rattle.layout.specs.Words.{word, put}
use Rattle.layout.specs.Blocks.{place, stored}
use Rattle.layout.proofs.Puts.{Apart, length_put, word_put_same, word_put_other}

-- two words of different places share no byte
pub apart : (a k b j : ℕ) → k < 64 → j < 64 → ((a ≡ b) × (k ≡ j) → ⊥) → Apart (place b j) (place a k)
apart a k b j h l ne =
    ⊎_elim
    (λ (e : a ≡ b).
    ⊎_elim (λ (d : k ≡ j). absurd (ne (e, d)))
    (λ d. ⊎_elim (λ (x : k < j). inr (omega arith)) (λ (x : j < k). inl (omega arith)) d)
    (cases_order k j))
    (λ e. ⊎_elim (λ (x : a < b). inr (omega arith)) (λ (x : b < a). inl (omega arith)) e)
    (cases_order a b)

-- so a byte of one is no byte of the other
pub outside : (a k b j i : ℕ) → k < 64 → j < 64 → i < 8 → ((a ≡ b) × (k ≡ j) → ⊥) →
    (place a k + i < place b j) ⊎ (place b j + 8 ≤ place a k + i)
outside a k b j i h l lt ne =
    ⊎_elim (λ (e : place b j + 8 ≤ place a k). inr (omega arith)) (λ (e : place a k + 8 ≤ place b j). inl (omega arith)) (apart a k b j h l ne)

pub length_stored : (m : List ℕ) (b j w : ℕ) → length (stored m b j w) ≡ length m
length_stored m b j w = length_put _ _ _ ∙ length_put m (place b j) w

module _ (m : List ℕ) (b j w : ℕ) (h : j < 63) where
  pub word_stored_same : 512 * b + 512 ≤ length m → word (stored m b j w) (place b j) ≡ w % 2 ^ 64
  word_stored_same l =
      word_put_other (put m (place b j) w) (place b 63) _ (place b j) (inr (omega arith))
      ∙ word_put_same m (place b j) w (omega arith)

  pub word_stored_other : (a k : ℕ) → k < 63 → ((a ≡ b) × (k ≡ j) → ⊥) → word (stored m b j w) (place a k) ≡ word m (place a k)
  word_stored_other a k l ne =
      word_put_other (put m (place b j) w) (place b 63) _ (place a k) (apart a k b 63 (omega arith) (omega arith) (λ y. let e = y.1 in omega arith))
      ∙ word_put_other m (place b j) w (place a k) (apart a k b j (omega arith) (omega arith) ne)
