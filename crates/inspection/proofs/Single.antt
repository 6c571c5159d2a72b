-- Two texts that are printed of one argument and one memory are equal.
use Rattle.std.proofs.Common.{◌≡◌, ℕ, ◌<◌, true, false, List, length, Ok, Err, decimal, Option, Result, sym, refl, ap, ◌∙◌, subst, arith}
use Rattle.std.proofs.lemmas.Fmt.{decimal_injective}
use Rattle.layout.specs.Blocks.{fit}
use Rattle.blocks.specs.declared.fault.BlockFault.{BlockFault}
use Rattle.blocks.specs.declared.fault.BlockFault.TheVariants.{Unfit, BadCheck}
use Rattle.blocks.specs.Inspection.{Inspected}
use Rattle.inspection.specs.Arguments.{Says}
use Rattle.inspection.specs.Prints.{Printed, usage, verdict, verdict_text}

one_number : (argument : Option (List ℕ)) (n k : ℕ) → Says argument n → Says argument k → n ≡ k
one_number argument n k p q =
    let same : decimal n ≡ decimal k = cc (p.1, q.1) in decimal_injective n k p.0 q.0 same

unfit : (m : List ℕ) (n : ℕ) → fit (length m) n ≡ true → fit (length m) n ≡ false → ⊥
unfit m n p q = let z : ◌≡◌ {A = ℕ} 0 1 = cc in omega (arith, z)

pub one_verdict : (m : List ℕ) (n : ℕ) (r s : Result Prim.Unit BlockFault) → Inspected m n r → Inspected m n s → r ≡ s
one_verdict m n (Ok u) (Ok v) p q = refl
one_verdict m n (Ok u) (Err Unfit) p q = absurd (unfit m n p.0 q)
one_verdict m n (Ok u) (Err (BadCheck b)) p q = absurd (q.2 (p.1 b q.1))
one_verdict m n (Err Unfit) (Ok v) p q = absurd (unfit m n q.0 p)
one_verdict m n (Err Unfit) (Err Unfit) p q = refl
one_verdict m n (Err Unfit) (Err (BadCheck b)) p q = absurd (unfit m n q.0 p)
one_verdict m n (Err (BadCheck a)) (Ok v) p q = absurd (p.2 (q.1 a p.1))
one_verdict m n (Err (BadCheck a)) (Err Unfit) p q = absurd (unfit m n p.0 q)
one_verdict m n (Err (BadCheck a)) (Err (BadCheck b)) p q =
    let low : a < b → ⊥ = λ l. p.2 (q.3 a l) in
    let high : b < a → ⊥ = λ l. q.2 (p.3 b l) in
    let bad : ℕ → Result Prim.Unit BlockFault = λ b. Err (BadCheck b) in
    ap bad (omega arith)

pub one_text : (argument : Option (List ℕ)) (m out other : List ℕ) → Printed argument m out → Printed argument m other → out ≡ other
one_text argument m out other (usage p e) (usage q f) = e ∙ sym f
one_text argument m out other (usage p e) (verdict n r q i f) = absurd (p n q)
one_text argument m out other (verdict n r p i e) (usage q f) = absurd (q n p)
one_text argument m out other (verdict n r p i e) (verdict k s q j f) =
    let same = one_number argument n k p q in
    let at : Inspected m n s = subst (λ (x : ℕ). Inspected m x s) (sym same) j in
    e ∙ (λ t. verdict_text m (same t) (one_verdict m n r s i at t)) ∙ sym f
