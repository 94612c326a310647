-- Row points, no row points and best row points, each as the file's. The laws of a file and its game are premises.
use Rattle.std.proofs.Common.{◌≡◌, ◌↔◌, ℤ, ◌*ℤ◌, ◌≤ℤ◌, Bool, true, false, List, take, Option, Some, None, arith, refl, sym, subst, subst₂, ◌∙◌}
use lib.IntN.{*ℤ_comm}
use Rattle.emp_algebra.proofs.Order.{linear}
use Rattle.emp_num.specs.Point.{Point}
use Rattle.emp_num.specs.SamePoint.{SamePoint}
use Rattle.emp_num.proofs.SamePoints.{same_back}
use Rattle.emp_ast.specs.declared.model.Model.{Model}
use Rattle.emp_ast.specs.declared.annot.Annot.{Annot}
use Rattle.emp_ast.specs.Bilevel.{IsAdmissible, IsBetterForLeader}
use Rattle.emp_ast.specs.Rivals.{MeetsDefinitions}
use Rattle.emp_ast.proofs.SameWords.{same_points_are_one}
use Rattle.emp_rows.specs.declared.affine.Affine.{Affine}
use Rattle.emp_rows.specs.declared.system.RowSystem.{RowSystem}
use Rattle.emp_rows.specs.RowPoints.{Solves, value_at}
use Rattle.emp_split.specs.Games.{coordinates}
use Rattle.emp_split.specs.Meaning.{IsAdmissible as IsGameAdmissible, IsBetter}
use Rattle.emp_quantities.specs.System.{IsBelowBy}
use Rattle.emp_quantities.proofs.Numbering.{over_orders}
use Rattle.emp_problem.specs.Class.{SolvesBy, SolvesFile}
use Rattle.emp_meaning.specs.Laws.{left_nums, IsWellMade, GameSolvesFile, FileSolvesGame, OrdersAgree, CoordinatesFill, GamesAreWellMade}
use Rattle.emp_verdict.specs.Laws.{HasRows, IsFileOf, PointsSolve, MissingHaveNone, BestAreBest}
use Rattle.emp_verdict.proofs.Scaled.{over, over_same, solves_over, below_over}
use Rattle.emp_verdict.proofs.Rows.{matched, rows_admissible, RowOf, rows_lift}

-- the laws of a file and its game
pub record FileIsGame : Type 0 where
  pub sound : GameSolvesFile
  pub complete : FileSolvesGame
  pub orders : OrdersAgree
  pub fills : CoordinatesFill
  pub made : GamesAreWellMade

pub made_by : FileIsGame → (m : Model) (a : Annot) (s : RowSystem) (h : HasRows m a s) → IsWellMade h.game
made_by laws m a s h = laws.made h.times m a h.game h.class h.is

-- ---- the same point of the file
same_definitions : (m : Model) (a : Annot) (p q : Point) → SamePoint p q → MeetsDefinitions m a p → MeetsDefinitions m a q
same_definitions m a p q h d = record {
  blocks = λ k l e c at defined. same_points_are_one.equation c p q h (d.blocks k l e c at defined);
  leads = λ b e c at defined. same_points_are_one.equation c p q h (d.leads b e c at defined);
}

same_solves : (b : Bool) (m : Model) (a : Annot) (p q : Point) → SamePoint p q → SolvesBy b m a p → SolvesBy b m a q
same_solves false m a p q h k = same_points_are_one.equilibrium m a p q h k
same_solves true m a p q h k = same_points_are_one.admissible m a p q h k

-- ---- row points
pub points_solve : FileIsGame → PointsSolve
points_solve laws m a s p q rows solves file =
    let grown = over q p in
    let same = over_same q p in
    let nums = matched rows.times m a rows.game s p q rows.is rows.system solves.count file.same in
    let row = rows_admissible rows.times rows.game s (over p q) (made_by laws m a s rows) rows.convex rows.system (solves_over s p q solves) in
    let game : IsGameAdmissible rows.game grown.den (left_nums m a grown) = subst₂ (λ (d : ℤ) (xs : List ℤ). IsGameAdmissible rows.game d xs) (*ℤ_comm p.den q.den) (sym nums) row in
    same_solves a.bilevel m a grown p (same_back p grown same)
    (laws.sound rows.times m a rows.game grown rows.class rows.is (sym same.count ∙ file.fits) (same_definitions m a p grown same file.definitions) game)

pub points_admissible : FileIsGame → (m : Model) (a : Annot) (s : RowSystem) (p q : Point) → HasRows m a s → a.bilevel ≡ true → Solves s q → IsFileOf m a q p → IsAdmissible m a p
points_admissible laws m a s p q rows bilevel solves file = subst (λ (b : Bool). SolvesBy b m a p) bilevel (points_solve laws m a s p q rows solves file)

-- ---- what solves the file is that of a row point
pub file_lifts : FileIsGame → (m : Model) (a : Annot) (s : RowSystem) (p : Point) → HasRows m a s → SolvesFile m a p → RowOf m a s p
file_lifts laws m a s p rows h = rows_lift rows.times m a rows.game s p rows.is (made_by laws m a s rows) rows.convex rows.system (laws.complete rows.times m a rows.game p rows.class rows.is h).1

pub missing_have_none : FileIsGame → MissingHaveNone
missing_have_none laws m a s p rows none h = let r = file_lifts laws m a s p rows h in none r.row r.solves

-- ---- order
-- a row point's objective is lower exactly where the file's point is better for the leader
pub orders_agree : FileIsGame → (m : Model) (a : Annot) (s : RowSystem) (p q r t : Point) → HasRows m a s → a.bilevel ≡ true → Solves s p → Solves s q → IsFileOf m a p r → IsFileOf m a q t → IsBelowBy s.objective p q ↔ IsBetterForLeader m a r t
orders_agree laws m a s p q r t rows bilevel h k file other = (λ l. there.0 (turned (system.0 (grown.0 l))), λ l. grown.1 (system.1 (back (there.1 l))))
  where
    grown : IsBelowBy s.objective p q ↔ IsBelowBy s.objective (over r p) (over t q)
    grown = below_over s.objective r t p q

    system : IsBelowBy s.objective (over r p) (over t q) ↔ IsBetter rows.game.leader (over r p).den (take (coordinates rows.game) (over r p).nums) (over t q).den (take (coordinates rows.game) (over t q).nums)
    system = over_orders rows.times rows.game s (over r p) (over t q) (made_by laws m a s rows).goal rows.system (solves_over s r p h).count (solves_over s t q k).count

    first : left_nums m a (over p r) ≡ take (coordinates rows.game) (over r p).nums
    first = matched rows.times m a rows.game s r p rows.is rows.system h.count file.same

    second : left_nums m a (over q t) ≡ take (coordinates rows.game) (over t q).nums
    second = matched rows.times m a rows.game s t q rows.is rows.system k.count other.same

    Better : ℤ → List ℤ → ℤ → List ℤ → Type 0
    Better d xs e ys = IsBetter rows.game.leader d xs e ys

    turned : Better (over r p).den (take (coordinates rows.game) (over r p).nums) (over t q).den (take (coordinates rows.game) (over t q).nums) → Better (over p r).den (left_nums m a (over p r)) (over q t).den (left_nums m a (over q t))
    turned b =
        subst₂ (λ (d : ℤ) (xs : List ℤ). Better d xs (over q t).den (left_nums m a (over q t))) (*ℤ_comm r.den p.den) (sym first)
        (subst₂ (λ (e : ℤ) (ys : List ℤ). Better (over r p).den (take (coordinates rows.game) (over r p).nums) e ys) (*ℤ_comm t.den q.den) (sym second) b)

    back : Better (over p r).den (left_nums m a (over p r)) (over q t).den (left_nums m a (over q t)) → Better (over r p).den (take (coordinates rows.game) (over r p).nums) (over t q).den (take (coordinates rows.game) (over t q).nums)
    back b =
        subst₂ (λ (d : ℤ) (xs : List ℤ). Better d xs (over t q).den (take (coordinates rows.game) (over t q).nums)) (*ℤ_comm p.den r.den) first
        (subst₂ (λ (e : ℤ) (ys : List ℤ). Better (over p r).den (left_nums m a (over p r)) e ys) (*ℤ_comm q.den t.den) second b)

    game : Better (over p r).den (left_nums m a (over p r)) (over q t).den (left_nums m a (over q t)) ↔ IsBetterForLeader m a (over p r) (over q t)
    game =
        laws.orders rows.times m a rows.game (over p r) (over q t) rows.class rows.is bilevel (sym (over_same p r).count ∙ file.fits) (sym (over_same q t).count ∙ other.fits)
        (same_definitions m a r (over p r) (over_same p r) file.definitions)
        (same_definitions m a t (over q t) (over_same q t) other.definitions)

    there : Better (over p r).den (left_nums m a (over p r)) (over q t).den (left_nums m a (over q t)) ↔ IsBetterForLeader m a r t
    there = (
      λ b. same_points_are_one.better_for_leader m a (over p r) r (over q t) t (same_back r (over p r) (over_same p r)) (same_back t (over q t) (over_same q t)) (game.0 b),
      λ b. game.1 (same_points_are_one.better_for_leader m a r (over p r) t (over q t) (over_same p r) (over_same q t) b),
    )

-- ---- best points
none_below : (o : Option Affine) (q t : Point) → ((r : Affine) → o ≡ Some r → (value_at r q *ℤ t.den) ≤ℤ (value_at r t *ℤ q.den)) → IsBelowBy o t q → ⊥
none_below None q t h b = b
none_below (Some r) q t h b = let l = h r refl in omega (arith, linear, l, b)

pub best_are_best : FileIsGame → BestAreBest
best_are_best laws m a s p q rows bilevel solves none file = record {
  admissible = points_admissible laws m a s p q rows bilevel solves file;
  best = λ r h better. beaten r (file_of r h) h better;
}
  where
    file_of : (r : Point) → IsAdmissible m a r → SolvesFile m a r
    file_of r h = subst (λ (b : Bool). SolvesBy b m a r) (sym bilevel) h

    beaten : (r : Point) → SolvesFile m a r → IsAdmissible m a r → IsBetterForLeader m a r p → ⊥
    beaten r h here better =
        let row = file_lifts laws m a s r rows h in
        let definitions = (laws.complete rows.times m a rows.game r rows.class rows.is h).0 in
        let other : IsFileOf m a row.row r = record { fits = here.follows.fits; definitions = definitions; same = row.same } in
        none_below s.objective q row.row (λ o e. none o e row.row row.solves) ((orders_agree laws m a s row.row q r p rows bilevel row.solves solves other file).1 better)
