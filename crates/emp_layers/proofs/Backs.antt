-- What the way back of a point gives is the image, or the first wide fold, and what is so is what it gives.
use Rattle.std.proofs.Common.{◌≡◌, ◌⊎◌, inl, inr, ℕ, ◌<◌, List, length, Some, None, arith, refl, sym, ap, subst, ◌∙◌}
use Rattle.std.proofs.lemmas.Option.{same_Some, none-some}
use Rattle.emp_algebra.specs.Vector.{cell}
use Rattle.emp_num.specs.Ratio.{SameRatio}
use Rattle.emp_num.specs.Point.{Point, coordinate, StandsFor}
use Rattle.emp_num.specs.SamePoint.{SamePoint}
use Rattle.emp_num.specs.Whole.{whole}
use Rattle.emp_num.specs.declared.frac.Frac.{Frac}
use Rattle.emp_num.proofs.Commons.{common_point, stands_for_common}
use Rattle.emp_num.proofs.Same.{same_value}
use Rattle.emp_num.proofs.SamePoints.{cross_on, same_itself, same_back, stands_respects, stands_one_point, stands_one_list}
use Rattle.emp_num.proofs.Standing.{stands_at}
use Rattle.emp_ast.specs.declared.model.Model.{Model}
use Rattle.emp_ast.specs.declared.annot.Annot.{Annot}
use Rattle.emp_ast.specs.Rivals.{MeetsDefinitions}
use Rattle.emp_ast.proofs.SameWords.{same_points_are_one}
use Rattle.emp_form.specs.Calls.{Formula, HasWideCall}
use Rattle.emp_poly.specs.Written.{entry}
use Rattle.emp_poly.specs.Quads.{as_ratio}
use Rattle.emp_problem.specs.Left.{left}
use Rattle.emp_problem.specs.declared.problem.AgentProblem.{AgentProblem}
use Rattle.emp_subst.specs.Fill.{IsFold, IsFirstWide, IsFilled, IsFilling, spread}
use Rattle.emp_meaning.specs.Ties.{left_at}
use Rattle.emp_meaning.proofs.Places.{places}
use Rattle.emp_verdict.specs.Laws.{IsFileOf}
use Rattle.emp_layers.specs.Layers.{FitsProblem, IsFilesProblem}
use Rattle.emp_layers.specs.Image.{image}
use Rattle.emp_layers.proofs.Deciding.{Listed, stood_by}
use Rattle.emp_layers.proofs.Wides.{FirstWide, first_wide, number_of, wide_by, wide_at}
use Rattle.emp_layers.proofs.Files.{left_are, image_is_file, image_is_one}

-- ---- the first wide fold
module _ (m : Model) (a : Annot) (pr : AgentProblem) (xs : List Frac) where
  abbrev AllNarrow : Type 0
  AllNarrow = (v : ℕ) (f : Formula) → v < length m.variables → IsFold m a pr xs v f → HasWideCall f → ⊥

  order : (i j : ℕ) → (i < j) ⊎ ((j < i) ⊎ (i ≡ j))
  order i j = grind arith

  some_of : (o : FirstWide m a pr xs) (w : ℕ) → IsFirstWide m a pr xs w → number_of o ≡ Some w
  some_of (inr none) w h = absurd (none w h.inside (record { formula = h.formula; fold = h.fold; wide = h.wide }))
  some_of (inl t) w h = go (order t.0 w)
    where
      go : (t.0 < w) ⊎ ((w < t.0) ⊎ (t.0 ≡ w)) → Some t.0 ≡ Some w
      go (inl l) = absurd (h.before t.0 t.1.here.formula l t.1.here.fold t.1.here.wide)
      go (inr (inl l)) = absurd (t.1.before w l (record { formula = h.formula; fold = h.fold; wide = h.wide }))
      go (inr (inr e)) = ap Some e

  none_of : (o : FirstWide m a pr xs) → AllNarrow → number_of o ≡ None
  none_of (inr none) h = refl
  none_of (inl t) h = absurd (h t.0 t.1.here.formula t.1.below t.1.here.fold t.1.here.wide)

  of_some : (o : FirstWide m a pr xs) (w : ℕ) → number_of o ≡ Some w → IsFirstWide m a pr xs w
  of_some (inr none) w e = absurd (none-some w e)
  of_some (inl t) w e =
      subst (λ k. IsFirstWide m a pr xs k) (same_Some t.0 w e) (record {
        inside = t.1.below;
        formula = t.1.here.formula;
        fold = t.1.here.fold;
        wide = t.1.here.wide;
        before = λ v f l h wide. t.1.before v l (record { formula = f; fold = h; wide = wide });
      })

  of_none : (o : FirstWide m a pr xs) → number_of o ≡ None → AllNarrow
  of_none (inr none) e = λ v f l h wide. none v l (record { formula = f; fold = h; wide = wide })
  of_none (inl t) e = absurd (none-some t.0 (sym e))

module _ (m : Model) (a : Annot) (pr : AgentProblem) (p : Point) (fs : List Frac) (stands : StandsFor fs p) where
  wide_is : wide_at m a pr p ≡ number_of (first_wide m a pr (spread m a fs))
  wide_is = go (stood_by p)
    where
      go : (o : Listed (λ gs. StandsFor gs p)) → wide_by m a pr p o ≡ number_of (first_wide m a pr (spread m a fs))
      go (inl t) = ap (λ gs. number_of (first_wide m a pr (spread m a gs))) (stands_one_list t.0 fs p p t.1 stands (same_itself p))
      go (inr never) = absurd (never fs stands)

  pub wide_gives : (w : ℕ) → IsFirstWide m a pr (spread m a fs) w → wide_at m a pr p ≡ Some w
  wide_gives w h = wide_is ∙ some_of m a pr (spread m a fs) (first_wide m a pr (spread m a fs)) w h

  pub narrow_gives : AllNarrow m a pr (spread m a fs) → wide_at m a pr p ≡ None
  narrow_gives h = wide_is ∙ none_of m a pr (spread m a fs) (first_wide m a pr (spread m a fs)) h

  pub given_wide : (w : ℕ) → wide_at m a pr p ≡ Some w → IsFirstWide m a pr (spread m a fs) w
  given_wide w e = of_some m a pr (spread m a fs) (first_wide m a pr (spread m a fs)) w (sym wide_is ∙ e)

  given_narrow : wide_at m a pr p ≡ None → AllNarrow m a pr (spread m a fs)
  given_narrow e = of_none m a pr (spread m a fs) (first_wide m a pr (spread m a fs)) (sym wide_is ∙ e)

-- ---- coordinates
-- each entry of the list is the point's coordinate
entry_stands : (fs : List Frac) (q : Point) (k : ℕ) → StandsFor fs q → k < length fs → SameRatio (as_ratio (entry fs k)) (coordinate q k)
entry_stands fs q k h l = stands_at fs q h k (whole 0) l

same_definitions : (m : Model) (a : Annot) (p q : Point) → SamePoint p q → MeetsDefinitions m a p → MeetsDefinitions m a q
same_definitions m a p q h d = record {
  blocks = λ k l e c at defined. same_points_are_one.equation c p q h (d.blocks k l e c at defined);
  leads = λ b e c at defined. same_points_are_one.equation c p q h (d.leads b e c at defined);
}

module _ (m : Model) (a : Annot) (pr : AgentProblem) (h : IsFilesProblem m a pr) (p : Point) (fits : FitsProblem pr p) (fs : List Frac) (stands : StandsFor fs p) where
  count : length fs ≡ length (left m a)
  count = sym stands.count ∙ (fits ∙ left_are m a pr h.problem)

  -- ---- what the way back gives
  filled_file : (q : Point) → IsFilled m a fs q → IsFileOf m a p q
  filled_file q f = record {
    fits = f.fits;
    definitions = f.definitions;
    same = λ i l.
        let here : i < length fs = (let c = count in omega arith) in
        let v = left_at m a i in
        let g = entry fs i in
        cross_on (cell q.nums v) q.den g.num g.den (cell p.nums i) p.den g.positive (f.left i here) (entry_stands fs p i stands here);
  }

  pub filling_is_image : (list : List Frac) → IsFilling m a pr fs list → StandsFor list (image m a pr p) × (wide_at m a pr p ≡ None)
  filling_is_image list f =
      let q = common_point list in
      let at = stands_for_common list in
      let same = image_is_one m a pr p q h fits (filled_file q (f.points q at)) in (
        stands_respects list q (image m a pr p) at (same_back (image m a pr p) q same),
        narrow_gives m a pr p fs stands f.narrow,
      )

  -- ---- what is so is what it gives
  left_same : (q : Point) → SamePoint (image m a pr p) q → (i : ℕ) → i < length fs → SameRatio (coordinate q (left_at m a i)) (as_ratio (entry fs i))
  left_same q same i l =
      let r = image m a pr p in
      let v = left_at m a i in
      let g = entry fs i in
      let file = image_is_file m a pr p h fits in
      let here : i < length (left m a) = (let c = count in omega arith) in
      let own : SameRatio (coordinate r v) (as_ratio g) = cross_on (cell r.nums v) r.den (cell p.nums i) p.den g.num g.den p.positive (file.same i here) (sym (entry_stands fs p i stands l)) in
      cross_on (cell q.nums v) q.den (cell r.nums v) r.den g.num g.den r.positive (sym (same.same v)) own

  left_entry : (list : List Frac) → StandsFor list (image m a pr p) → (i : ℕ) → i < length fs → entry list (left_at m a i) ≡ entry fs i
  left_entry list at i l =
      let r = image m a pr p in
      let v = left_at m a i in
      let f = entry list v in
      let g = entry fs i in
      let file = image_is_file m a pr p h fits in
      let here : i < length (left m a) = (let c = count in omega arith) in
      let within : v < length list = subst (λ n. v < n) (sym file.fits ∙ at.count) ((places m a h.class).at i here).0 in
      same_value f g (cross_on f.num f.den (cell r.nums v) r.den g.num g.den r.positive (entry_stands list r v at within) (left_same r (same_itself r) i l))

  pub image_is_filling : (list : List Frac) → StandsFor list (image m a pr p) → wide_at m a pr p ≡ None → IsFilling m a pr fs list
  image_is_filling list at none =
      let r = image m a pr p in
      let file = image_is_file m a pr p h fits in
      record {
        count = sym at.count ∙ file.fits;
        left = left_entry list at;
        points = λ q stood.
            let same = stands_one_point list r q at stood in
            record { fits = stood.count ∙ (sym at.count ∙ file.fits); definitions = same_definitions m a r q same file.definitions; left = left_same q same };
        narrow = given_narrow m a pr p fs stands none;
      }
