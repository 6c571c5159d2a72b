-- A memory that is written from its first word on.
use Rattle.std.proofs.Common.{◌≡◌, ℕ, ◌+◌, ◌-◌, ◌*◌, ◌<◌, ◌≤◌, List, length, get_or, sym, ap, ◌∙◌, inl, ⊎_elim, arith}
use Rattle.std.proofs.lemmas.List.FromFn.{fill_by_all}
use Rattle.std.proofs.lemmas.Bool.{cases_lt}
use Rattle.layout.specs.Words.{put, byte_of}
use Rattle.layout.specs.Blocks.{place}
use Rattle.layout.specs.Image.{full, byte_at, bytes_of, Written}
use Rattle.layout.proofs.Puts.{byte_put, byte_put_other}
use Rattle.layout.proofs.Images.{byte_at_place}

module _ (f : ℕ → ℕ → ℕ) where
  -- one more word
  pub written_more : (m l : List ℕ) (b j w k : ℕ) → j < 64 → place b j + 8 ≤ length m → w ≡ full f b j → l ≡ put m (place b j) w →
      k ≡ place b j + 8 → Written f m (place b j) → Written f l k
  written_more m l b j w k h room e p q before i lt =
      ap (λ x. get_or x i 0) p
      ∙ ⊎_elim
      (λ (x : i < place b j). byte_put_other m (place b j) w i (inl x) ∙ before i x)
      (λ (x : place b j ≤ i).
      let d : i ≡ place b j + (i - place b j) = omega arith in
      ap (λ z. get_or (put m (place b j) w) z 0) d
      ∙ byte_put m (place b j) w room (i - place b j) (omega arith)
      ∙ ap (λ z. byte_of z (i - place b j)) e
      ∙ sym (byte_at_place f b j (i - place b j) h (omega arith))
      ∙ ap (byte_at f) (sym d))
      (cases_lt i (place b j))

  pub written_all : (m : List ℕ) (blocks : ℕ) → length m ≡ 512 * blocks → Written f m (512 * blocks) → m ≡ bytes_of f blocks
  written_all m blocks e h = fill_by_all (byte_at f) m (512 * blocks) 0 e h
