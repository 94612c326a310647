-- The way back of a row point: its first coordinates, filled.
use Rattle.std.proofs.Common.{◌≡◌, ℕ, ◌≤◌, List, take, length, Some, None, arith, subst}
use Rattle.std.proofs.lemmas.List.{length-take-le}
use Rattle.emp_num.specs.Point.{Point, StandsFor}
use Rattle.emp_num.specs.declared.frac.Frac.{Frac}
use Rattle.emp_ast.specs.declared.tree.EquId.{EquId}
use Rattle.emp_ast.specs.declared.model.Model.{Model}
use Rattle.emp_ast.specs.declared.annot.Annot.{Annot}
use Rattle.emp_owner.specs.declared.owned.Owned.{Owned}
use Rattle.emp_rows.specs.declared.system.RowSystem.{RowSystem}
use Rattle.emp_split.proofs.Reforms.{front}
use Rattle.emp_problem.specs.declared.problem.AgentProblem.{AgentProblem}
use Rattle.emp_subst.specs.Fill.{IsFilling, IsFirstWide, spread}
use Rattle.emp_layers.specs.Layers.{FitsProblem}
use Rattle.emp_layers.specs.Image.{image}
use Rattle.emp_layers.proofs.Systems.{front_stands}
use Rattle.emp_layers.proofs.Wides.{wide_at}
use Rattle.emp_layers.proofs.Backs.{filling_is_image, wide_gives}
use Rattle.emp_disj.specs.Laws.{disj_image}
use Rattle.emp_disj.proofs.Reforms.{disj_reaches}
use Rattle.emp_disj_step.specs.Member.{IsMember}

module _ (m : Model) (ds : List (List EquId)) (a : Annot) (o : Owned) (pr : AgentProblem) (s : RowSystem) (w : IsMember m ds a o pr s) (fs : List Frac) where
  pub reaches : length fs ≡ s.base → length pr.variables ≤ length fs
  reaches count = let r = disj_reaches m ds pr w.wide w.parts s w.disj in omega (arith, r, count)

  module _ (count : length fs ≡ s.base) (p : Point) (stands : StandsFor fs p) where
    firsts_stand : StandsFor (take (length pr.variables) fs) (front (length pr.variables) p)
    firsts_stand = front_stands (length pr.variables) fs p (reaches count) stands

    fits : FitsProblem pr (front (length pr.variables) p)
    fits = length-take-le (length pr.variables) p.nums (let r = reaches count in let t = stands.count in omega (arith, r, t))

    pub filled : (vs list : List Frac) → vs ≡ take (length pr.variables) fs → IsFilling m a pr vs list → StandsFor list (disj_image m ds pr p) × (wide_at m a pr (front (length pr.variables) p) ≡ None)
    filled vs list e h =
        let r = filling_is_image m a pr w.filed.files (front (length pr.variables) p) fits (take (length pr.variables) fs) firsts_stand list (subst (λ (xs : List Frac). IsFilling m a pr xs list) e h) in
        (subst (λ (b : Annot). StandsFor list (image m b pr (front (length pr.variables) p))) w.annot r.0, r.1)

    pub wide_named : (vs : List Frac) (k : ℕ) → vs ≡ take (length pr.variables) fs → IsFirstWide m a pr (spread m a vs) k → wide_at m a pr (front (length pr.variables) p) ≡ Some k
    wide_named vs k e h = wide_gives m a pr (front (length pr.variables) p) (take (length pr.variables) fs) firsts_stand k (subst (λ (xs : List Frac). IsFirstWide m a pr (spread m a xs) k) e h)
