-- A variable that an equation defines has a step of 0.
use Rattle.std.proofs.Common.{◌≡◌, ℕ, zero, suc, ◌+◌, ◌<◌, Bool, true, false, cond, pos, List, [], ◌∷◌, length, get_or, arith, refl, sym, subst}
use Rattle.emp_num.specs.declared.frac.Frac.{Frac}
use Rattle.emp_num.specs.Whole.{whole}
use Rattle.emp_ast.specs.declared.model.Variable.{Variable}
use Rattle.emp_ast.specs.declared.model.Model.{Model}
use Rattle.emp_ast.specs.declared.annot.Annot.{Annot}
use Rattle.emp_ast.specs.Parties.{is_defined}
use Rattle.emp_poly.specs.Written.{entry}
use Rattle.emp_subst.specs.Fill.{spread_from, spread}

spread_from_still : (m : Model) (a : Annot) (values : List Frac) (xs : List Variable) (at next x : ℕ) (f : Frac) → x < length (spread_from m a values at next xs) → is_defined m a (at + x) ≡ true → (get_or (spread_from m a values at next xs) x f).num ≡ pos 0
spread_from_still m a values [] at next x f l d = absurd (omega arith)
spread_from_still m a values (y ∷ ys) at next zero f l d =
    let e : at + 0 ≡ at = omega arith in
    let here : is_defined m a at ≡ true = subst (λ k. is_defined m a k ≡ true) e d in
    subst (λ (b : Bool). (get_or (cond b (whole 0 ∷ spread_from m a values (at + 1) next ys) (entry values next ∷ spread_from m a values (at + 1) (next + 1) ys)) 0 f).num ≡ pos 0) (sym here) refl
spread_from_still m a values (y ∷ ys) at next (suc k) f l d =
    let e : at + suc k ≡ at + 1 + k = omega arith in
    let later : is_defined m a (at + 1 + k) ≡ true = subst (λ j. is_defined m a j ≡ true) e d in
    go (is_defined m a at) l (λ h. spread_from_still m a values ys (at + 1) next k f h later) (λ h. spread_from_still m a values ys (at + 1) (next + 1) k f h later)
  where
    go : (b : Bool) → suc k < length (cond b (whole 0 ∷ spread_from m a values (at + 1) next ys) (entry values next ∷ spread_from m a values (at + 1) (next + 1) ys)) → (k < length (spread_from m a values (at + 1) next ys) → (get_or (spread_from m a values (at + 1) next ys) k f).num ≡ pos 0) → (k < length (spread_from m a values (at + 1) (next + 1) ys) → (get_or (spread_from m a values (at + 1) (next + 1) ys) k f).num ≡ pos 0) → (get_or (cond b (whole 0 ∷ spread_from m a values (at + 1) next ys) (entry values next ∷ spread_from m a values (at + 1) (next + 1) ys)) (suc k) f).num ≡ pos 0
    go true h p q = p (omega (arith, h))
    go false h p q = q (omega (arith, h))

pub spread_still : (m : Model) (a : Annot) (values : List Frac) (x : ℕ) (f : Frac) → x < length (spread m a values) → is_defined m a x ≡ true → (get_or (spread m a values) x f).num ≡ pos 0
spread_still m a values x f l d =
    let e : x ≡ 0 + x = omega arith in
    spread_from_still m a values m.variables 0 0 x f l (subst (λ k. is_defined m a k ≡ true) e d)
