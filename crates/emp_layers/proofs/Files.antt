-- From the problem of a file to the file, as a rewriting asks it.
use Rattle.std.proofs.Common.{◌≡◌, ◌↔◌, ℤ, pos, ◌*ℤ◌, ◌<ℤ◌, Bool, true, false, List, length, refl, sym, ap, subst, subst₂, ◌∙◌}
use Rattle.std.proofs.lemmas.List.{length-map}
use Rattle.emp_algebra.specs.Vector.{cell, scale}
use Rattle.emp_algebra.proofs.Laws.{mul_pos}
use Rattle.emp_num.specs.Point.{Point}
use Rattle.emp_num.specs.SamePoint.{SamePoint}
use Rattle.emp_num.proofs.SamePoints.{cross_on}
use Rattle.emp_ast.specs.declared.model.Model.{Model}
use Rattle.emp_ast.specs.declared.annot.Annot.{Annot}
use Rattle.emp_ast.specs.Rivals.{Fits}
use Rattle.emp_ast.specs.Bilevel.{IsBetterForLeader}
use Rattle.emp_split.specs.Meaning.{IsAdmissible, IsBetter}
use Rattle.emp_problem.specs.declared.problem.AgentProblem.{AgentProblem}
use Rattle.emp_problem.specs.Left.{left}
use Rattle.emp_problem.specs.Problem.{game, IsOver}
use Rattle.emp_problem.specs.ProblemOf.{left_variable, IsProblemOf}
use Rattle.emp_problem.specs.GameOf.{IsGameOf}
use Rattle.emp_problem.specs.Class.{SolvesBy, SolvesFile}
use Rattle.emp_whole.proofs.Multiples.{each_problem_is_whole}
use Rattle.emp_whole.proofs.Games.{problems_have_games}
use Rattle.emp_meaning.specs.Laws.{left_nums}
use Rattle.emp_meaning.specs.Ties.{left_at}
use Rattle.emp_meaning.proofs.Move.{left_count, left_cell}
use Rattle.emp_meaning.proofs.Leading.{not_led}
use Rattle.emp_meaning.proofs.Assembly.{game_solves_file, file_solves_game, orders_agree}
use Rattle.emp_layers.specs.Layers.{BetterBy, IsBetterOfFile, FitsProblem, SolvesProblem, IsBetterOfProblem, IsFilesProblem}
use Rattle.emp_layers.specs.Image.{image}
use Rattle.emp_layers.specs.Laws.{ImageIsFile, ImageIsOne, ImagesAreSame, ProblemIsSound, ProblemKeepsOrder, ProblemLifts, SolvingFits}
use Rattle.emp_layers.proofs.Scaling.{admissible_scaled, better_scaled}
use Rattle.emp_layers.proofs.Imaging.{image_nums, over_is_file}
use Rattle.emp_layers.proofs.Ones.{one_point}

-- ---- sizes
pub left_are : (m : Model) (a : Annot) (pr : AgentProblem) → IsProblemOf m a pr → length pr.variables ≡ length (left m a)
left_are m a pr h = ap length h.variables ∙ length-map (left m a) (left_variable m)

pub solving_fits : SolvingFits
solving_fits m a p h = go a.bilevel h
  where
    go : (b : Bool) → SolvesBy b m a p → Fits m p
    go false e = e.fits
    go true e = e.follows.fits

-- ---- the image
pub image_is_file : ImageIsFile
image_is_file m a pr p h fits = let n = each_problem_is_whole pr in over_is_file n.0 m a (game n.0 pr) h.class (problems_have_games n.0 m a pr h.problem n.1) n.1.positive p (fits ∙ left_are m a pr h.problem)

pub image_is_one : ImageIsOne
image_is_one m a pr p q h fits file =
    let r = image m a pr p in
    let here = image_is_file m a pr p h fits in
    one_point m a h.class r q here.fits file.fits here.definitions file.definitions
    (λ i l. let v = left_at m a i in cross_on (cell r.nums v) r.den (cell p.nums i) p.den (cell q.nums v) q.den p.positive (here.same i l) (sym (file.same i l)))

pub images_are_same : ImagesAreSame
images_are_same m a pr p q h fits others same =
    let r = image m a pr q in
    let there = image_is_file m a pr q h others in
    image_is_one m a pr p r h fits (record {
      fits = there.fits;
      definitions = there.definitions;
      same = λ i l. cross_on (cell r.nums (left_at m a i)) r.den (cell q.nums i) q.den (cell p.nums i) p.den q.positive (there.same i l) (sym (same.same i));
    })

module _ (m : Model) (a : Annot) (pr : AgentProblem) (h : IsFilesProblem m a pr) where
  is_game : (n : ℤ) → IsOver n pr → IsGameOf n m a (game n pr)
  is_game n over = problems_have_games n m a pr h.problem over

  abbrev n : ℤ
  n = (each_problem_is_whole pr).0

  over : IsOver (each_problem_is_whole pr).0 pr
  over = (each_problem_is_whole pr).1

  image_left : (p : Point) → FitsProblem pr p → left_nums m a (image m a pr p) ≡ scale (n *ℤ p.den) p.nums
  image_left p fits = image_nums n m a (game n pr) h.class (is_game n over) (each_problem_is_whole pr).1.positive p (fits ∙ left_are m a pr h.problem)

  above : (p : Point) → pos 0 <ℤ (n *ℤ p.den)
  above p = mul_pos n p.den (each_problem_is_whole pr).1.positive p.positive

  -- ---- sound
  sound : (p : Point) → SolvesProblem pr p → SolvesFile m a (image m a pr p)
  sound p s =
      let file = image_is_file m a pr p h s.fits in
      game_solves_file n m a (game n pr) (image m a pr p) h.class (is_game n over) file.fits file.definitions
      (subst (λ (ys : List ℤ). IsAdmissible (game n pr) (image m a pr p).den ys) (sym (image_left p s.fits)) (admissible_scaled (game n pr) (n *ℤ p.den) p.den p.nums (above p) (s.over n over)))

  -- ---- order
  better_over : (k : ℤ) → IsOver k pr → a.bilevel ≡ true → (p q : Point) → FitsProblem pr p → FitsProblem pr q → IsBetter (game k pr).leader p.den p.nums q.den q.nums ↔ IsBetterForLeader m a (image m a pr p) (image m a pr q)
  better_over k whole bilevel p q fits others =
      let one = image_is_file m a pr p h fits in
      let two = image_is_file m a pr q h others in
      let l = (game k pr).leader in
      let up = better_scaled l (n *ℤ p.den) p.den p.nums (n *ℤ q.den) q.den q.nums (above p) (above q) in
      let agree = orders_agree k m a (game k pr) (image m a pr p) (image m a pr q) h.class (is_game k whole) bilevel one.fits two.fits one.definitions two.definitions in
      let first = image_left p fits in
      let second = image_left q others in (
        λ b. agree.0 (subst₂ (λ (xs ys : List ℤ). IsBetter l (image m a pr p).den xs (image m a pr q).den ys) (sym first) (sym second) (up.0 b)),
        λ b. up.1 (subst₂ (λ (xs ys : List ℤ). IsBetter l (image m a pr p).den xs (image m a pr q).den ys) first second (agree.1 b)),
      )

  keeps_order : (p q : Point) → FitsProblem pr p → FitsProblem pr q → IsBetterOfProblem pr p q ↔ IsBetterOfFile m a (image m a pr p) (image m a pr q)
  keeps_order p q fits others = go a.bilevel refl
    where
      go : (b : Bool) → a.bilevel ≡ b → IsBetterOfProblem pr p q ↔ BetterBy b m a (image m a pr p) (image m a pr q)
      go false e = (λ f. subst (λ l. IsBetter l p.den p.nums q.den q.nums) (not_led n m a (game n pr) e (is_game n over).leads) (f n over), λ none. absurd none)
      go true e = (λ f. (better_over n over e p q fits others).0 (f n over), λ b k whole. (better_over k whole e p q fits others).1 b)

  -- ---- lifts
  abbrev left_point : Point → Point
  left_point q = record { den = q.den; nums = left_nums m a q; positive = q.positive }

  lifts : (q : Point) → SolvesFile m a q → (p : Point) × SolvesProblem pr p × SamePoint (image m a pr p) q
  lifts q s =
      let fits : FitsProblem pr (left_point q) = left_count m a q ∙ sym (left_are m a pr h.problem) in (
        left_point q,
        record { fits = fits; over = λ k whole. (file_solves_game k m a (game k pr) q h.class (is_game k whole) s).1 },
        image_is_one m a pr (left_point q) q h fits (record {
          fits = solving_fits m a q s;
          definitions = (file_solves_game n m a (game n pr) q h.class (is_game n over) s).0;
          same = λ i l. ap (λ z. z *ℤ q.den) (sym (left_cell m a q i l));
        }),
      )

-- ---- the laws
pub problem_is_sound : ProblemIsSound
problem_is_sound m a pr p h s = sound m a pr h p s

pub problem_keeps_order : ProblemKeepsOrder
problem_keeps_order m a pr p q h s t = keeps_order m a pr h p q s.fits t.fits

pub problem_lifts : ProblemLifts
problem_lifts m a pr q h s = lifts m a pr h q s

-- the order of one problem is that of the same problem
pub same_order : (one other : AgentProblem) (p q : Point) → one ≡ other → IsBetterOfProblem one p q ↔ IsBetterOfProblem other p q
same_order one other p q e = (λ b. subst (λ pr. IsBetterOfProblem pr p q) e b, λ b. subst (λ pr. IsBetterOfProblem pr p q) (sym e) b)
