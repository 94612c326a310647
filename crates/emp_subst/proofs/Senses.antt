-- Whose defined objective a variable is.
use Rattle.std.proofs.Common.{◌≡◌, ℕ, ◌<◌, Bool, true, false, ◌&&◌, cond, nat_eq, List, length, get_or, Option, Some, None, arith, refl, sym, ap, subst, ◌∙◌}
use Rattle.std.proofs.lemmas.Bool.{eqb-true, and_parts}
use Rattle.std.proofs.lemmas.Option.{same_Some}
use Rattle.emp_ast.specs.declared.tree.EquId.{EquId}
use Rattle.emp_ast.specs.declared.model.Sense.{Sense}
use Rattle.emp_ast.specs.declared.model.Model.{Model}
use Rattle.emp_ast.specs.declared.annot.Block.{Block}
use Rattle.emp_ast.specs.declared.annot.Annot.{Annot}
use Rattle.emp_ast.specs.Parties.{Party, leader, block, objective, block_objective, goal_objective, is_defined_of}
use Rattle.emp_owner.specs.Settled.{IsDefinition, IsLeaderDefinition, AreDefinitions}
use Rattle.emp_owner.proofs.Lists.{get_is}
use Rattle.emp_subst.specs.Stages.{is_some, is_solved_by}
use Rattle.emp_subst.specs.Filling.{sense_by, Solves, FindsLeader}
use Rattle.emp_subst.proofs.Defined.{solved_of, solved_is}

sense_some : (d : Option EquId) (o : Option (Sense × ℕ)) (v : ℕ) (s : Sense) → sense_by d o v ≡ Some s → (o ≡ Some (s, v)) × (is_solved_by d o v ≡ true)
sense_some d None v s e = cc
sense_some d (Some w) v s e = go (nat_eq w.1 v && is_some d) refl e
  where
    go : (b : Bool) → (nat_eq w.1 v && is_some d) ≡ b → cond b (Some w.0) None ≡ Some s → (Some w ≡ Some (s, v)) × ((nat_eq w.1 v && is_some d) ≡ true)
    go true is k = (ap Some (same (w.0) (w.1) s v (same_Some w.0 s k) (eqb-true w.1 v (and_parts (nat_eq w.1 v) (is_some d) is).0)), is)
      where
        same : (x : Sense) (y : ℕ) (x' : Sense) (y' : ℕ) → x ≡ x' → y ≡ y' → ◌≡◌ {A = Sense × ℕ} (x, y) (x', y')
        same x y x' y' e f = rw (e, f) refl
    go false is k = cc

sense_none : (d : Option EquId) (o : Option (Sense × ℕ)) (v : ℕ) → sense_by d o v ≡ None → is_solved_by d o v ≡ false
sense_none d None v e = refl
sense_none d (Some w) v e = go (nat_eq w.1 v && is_some d) e
  where
    go : (b : Bool) → cond b (Some w.0) None ≡ None → b ≡ false
    go true k = cc
    go false k = refl

solves : (m : Model) (a : Annot) (p : Party) (d : Option EquId) (v : ℕ) (s : Sense) → IsDefinition m a p d → sense_by d (objective m a p) v ≡ Some s → Solves m a p v s
solves m a p d v s h e = let k = sense_some d (objective m a p) v s e in (k.0, sym (solved_of m a p d v h) ∙ k.1)

pub block_solves : (m : Model) (a : Annot) (list : List (Option EquId)) (k : ℕ) (b : Block) (d : Option EquId) (v : ℕ) (s : Sense) → AreDefinitions m a list → k < length a.blocks → b ≡ get_or a.blocks k b → d ≡ get_or list k d → sense_by d (block_objective (Some b)) v ≡ Some s → Solves m a (block k) v s
block_solves m a list k b d v s are l is_b is_d e =
    solves m a (block k) d v s (are.defined k d (get_is list k d (omega (arith, are.blocks)) is_d)) (ap (λ o. sense_by d (block_objective o) v) (get_is a.blocks k b l is_b) ∙ e)

pub block_solves_not : (m : Model) (a : Annot) (list : List (Option EquId)) (k : ℕ) (b : Block) (d : Option EquId) (v : ℕ) → AreDefinitions m a list → k < length a.blocks → b ≡ get_or a.blocks k b → d ≡ get_or list k d → sense_by d (block_objective (Some b)) v ≡ None → is_defined_of m a (block k) v ≡ false
block_solves_not m a list k b d v are l is_b is_d e =
    sym (solved_is m a k b d v (get_is a.blocks k b l is_b) (are.defined k d (get_is list k d (omega (arith, are.blocks)) is_d))) ∙ sense_none d (block_objective (Some b)) v e

pub finds_leader : (m : Model) (a : Annot) (d : Option EquId) (v : ℕ) (r : Option Sense) → IsLeaderDefinition m a a.bilevel d → a.bilevel ≡ true → r ≡ sense_by d (goal_objective m.goal) v → FindsLeader m a v r
finds_leader m a d v (Some s) h b e = (b, solves m a leader d v s (subst (λ x. IsLeaderDefinition m a x d) b h) (sym e))
finds_leader m a d v None h b e =
    ap (λ x. a.bilevel && x) (sym (solved_of m a leader d v (subst (λ x. IsLeaderDefinition m a x d) b h)) ∙ sense_none d (goal_objective m.goal) v (sym e)) ∙ ap (λ x. x && false) b

pub finds_none : (m : Model) (a : Annot) (v : ℕ) → a.bilevel ≡ false → FindsLeader m a v None
finds_none m a v b = ap (λ x. x && is_defined_of m a leader v) b

pub ruleset sensing = (finds_leader, finds_none)
