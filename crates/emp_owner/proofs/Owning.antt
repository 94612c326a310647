-- Owners as they are looked for.
use Rattle.std.proofs.Common.{◌≡◌, ℕ, ◌+◌, ◌<◌, ◌≤◌, Bool, true, false, ◌&&◌, ◌||◌, not, nat_eq, List, length, take, get_or, refl, sym, ap, ap₂, ◌∙◌}
use Rattle.std.specs.Prelude.{slice_get}
use Rattle.std.specs.List.{list_any}
use Rattle.std.proofs.lemmas.Bool.{eq-eqb, false≢true}
use Rattle.std.proofs.lemmas.List.{take_all}
use Rattle.std.proofs.lemmas.List.Folds.{list_any_at, list_any_more}
use Rattle.emp_ast.specs.declared.tree.VarId.{VarId}
use Rattle.emp_ast.specs.declared.tree.EquId.{EquId}
use Rattle.emp_ast.specs.declared.model.Model.{Model}
use Rattle.emp_ast.specs.declared.annot.Block.{Block}
use Rattle.emp_ast.specs.declared.annot.Annot.{Annot}
use Rattle.emp_ast.specs.Parties.{names_variable, block_variables, block_owns, some_block_owns, is_dual, is_goal, owns, leader}
use Rattle.emp_owner.specs.Rules.{unowned}
use Rattle.emp_owner.proofs.Lists.{get_is}

pub pair_found : (pairs : List (VarId × EquId)) (i : ℕ) (p : VarId × EquId) (v : ℕ) → i < length pairs → p ≡ get_or pairs i p → nat_eq p.0.at v ≡ true → list_any (λ q. nat_eq q.0.at v && nat_eq q.1.at p.1.at) pairs ≡ true
pair_found pairs i p v l is h =
    list_any_at (λ q. nat_eq q.0.at v && nat_eq q.1.at p.1.at) pairs i p l
    (ap (λ q. nat_eq q.0.at v && nat_eq q.1.at p.1.at) (sym is) ∙ (ap (λ b. b && nat_eq p.1.at p.1.at) h ∙ eq-eqb p.1.at p.1.at refl))

pub none_yet : {X : Type 0} (test : X → Bool) (xs : List X) (i : ℕ) (x : X) → i < length xs → x ≡ get_or xs i x → test x ≡ false → list_any test (take i xs) ≡ false → list_any test (take (i + 1) xs) ≡ false
none_yet test xs i x l is h before = list_any_more test xs i x l ∙ ap₂ (λ b c. b || c) before (ap test (sym is) ∙ h)

pub none_at_all : {X : Type 0} (test : X → Bool) (xs : List X) (i : ℕ) → length xs ≤ i → list_any test (take i xs) ≡ false → list_any test xs ≡ false
none_at_all test xs i l h = sym (ap (list_any test) (take_all i xs l)) ∙ h

pub block_found : (a : Annot) (i : ℕ) (b : Block) (v : ℕ) → i < length a.blocks → b ≡ get_or a.blocks i b → names_variable (block_variables b) v ≡ true → block_owns (slice_get a.blocks i) v ≡ true
block_found a i b v l is h = ap (λ o. block_owns o v) (get_is a.blocks i b l is) ∙ h

or_true : (b : Bool) → (b || true) ≡ true
or_true true = refl
or_true false = refl

not_false : (b : Bool) → not b ≡ false → b ≡ true
not_false true h = refl
not_false false h = absurd (false≢true (sym h))

-- what is in no block and no dual variable is the leader's, in a bilevel file
pub leader_owns : (m : Model) (a : Annot) (v : ℕ) → some_block_owns a v ≡ false → is_dual a v ≡ false → unowned a v ≡ false → (a.bilevel ≡ true) × (owns m a leader v ≡ true)
leader_owns m a v block dual owned =
    let rest : (not (some_block_owns a v) && not (is_dual a v)) ≡ true = ap₂ (λ b c. not b && not c) block dual in
    (not_false a.bilevel (go (not a.bilevel) block dual owned), ap (λ x. is_goal m v || names_variable a.leader v || x) rest ∙ or_true (is_goal m v || names_variable a.leader v))
  where
    go : (b : Bool) → some_block_owns a v ≡ false → is_dual a v ≡ false → (b && not (some_block_owns a v) && not (is_dual a v)) ≡ false → b ≡ false
    go true h k o = absurd (false≢true (sym o ∙ ap₂ (λ x y. not x && not y) h k))
    go false h k o = refl

pub ruleset pairing = (pair_found, none_yet, none_at_all)

pub ruleset owning = (block_found, none_yet, none_at_all)

pub ruleset leading = (leader_owns)
