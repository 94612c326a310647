-- A point with the outcomes meets an equation exactly where the affine polynomial of the outcomes stands so to 0.
use Rattle.std.proofs.Common.{◌≡◌, ◌↔◌, ℤ, pos, neg_ℤ, ◌+ℤ◌, ◌*ℤ◌, ◌≤ℤ◌, ◌<ℤ◌, Some, arith, sym, ap₂, subst, subst₂, ◌∙◌, length}
use Rattle.std.proofs.lemmas.Option.{same_Some}
use Rattle.emp_algebra.proofs.Laws.{mul_pos, neg_ℤ-*ℤ}
use Rattle.emp_algebra.proofs.Order.{linear}
use Rattle.emp_num.specs.Ratio.{Ratio, ratio, minus, SameRatio}
use Rattle.emp_num.proofs.SamePoints.{cross_on}
use Rattle.emp_ast.specs.declared.model.Relation.{Relation}
use Rattle.emp_ast.specs.declared.model.Relation.TheVariants.{Equal, AtLeast, AtMost, Nothing}
use Rattle.emp_ast.specs.Expression.{expression_of}
use Rattle.emp_ast.specs.Value.{both}
use Rattle.emp_ast.specs.Meets.{AreRelated}
use Rattle.emp_ast.proofs.Fractions.{sign_from, sign_to, sign_none}
use Rattle.emp_form.specs.Form.{form_value}
use Rattle.emp_form.specs.Expansion.{form}
use Rattle.emp_form.proofs.FormLaws.{entry_of}
use Rattle.emp_game.specs.Solved.{IsObeyed}
use Rattle.emp_agents.specs.Given.{difference}
use Rattle.emp_sp.specs.Outcomes.{put}
use Rattle.emp_sp.specs.Equations.{EquationsKeepOutcomes}
use Rattle.emp_sp.proofs.Splits.{keeps_value}

-- how a difference that is equal to top over bottom stands to 0
related_by : (r : Relation) (x y : Ratio) (top bottom : ℤ) → pos 0 <ℤ x.bottom → pos 0 <ℤ y.bottom → pos 0 <ℤ bottom → SameRatio (minus x y) (ratio top bottom) → AreRelated r (Some x) (Some y) ↔ IsObeyed r top
related_by r x y top bottom hx hy hb same = go r
  where
    t : ℤ
    t = x.top *ℤ y.bottom +ℤ neg_ℤ y.top *ℤ x.bottom

    b : ℤ
    b = x.bottom *ℤ y.bottom

    above : pos 0 <ℤ b
    above = mul_pos x.bottom y.bottom hx hy

    less : neg_ℤ y.top *ℤ x.bottom ≡ neg_ℤ (y.top *ℤ x.bottom)
    less = neg_ℤ-*ℤ y.top x.bottom

    down : t *ℤ bottom ≡ top *ℤ b
    down = same

    go : (r : Relation) → AreRelated r (Some x) (Some y) ↔ IsObeyed r top
    go Equal = (
      λ h. sign_none t b top bottom above hb down (omega (arith, linear, less, h)),
      λ h. let z : t ≡ pos 0 = sign_none top bottom t b hb above (sym down) h in omega (arith, linear, less, z),
    )
    go AtLeast = (
      λ h. sign_from t b top bottom above hb down (omega (arith, linear, less, h)),
      λ h. let z : pos 0 ≤ℤ t = sign_from top bottom t b hb above (sym down) h in omega (arith, linear, less, z),
    )
    go AtMost = (
      λ h. sign_to t b top bottom above hb down (omega (arith, linear, less, h)),
      λ h. let z : t ≤ℤ pos 0 = sign_to top bottom t b hb above (sym down) h in omega (arith, linear, less, z),
    )
    go Nothing = (λ h. tt, λ h. tt)

pub equations_keep_outcomes : EquationsKeepOutcomes
equations_keep_outcomes o q p parts factors has =
    let x = entry_of p (expression_of q.left.nodes) parts.0 in
    let y = entry_of p (expression_of q.right.nodes) parts.1 in
    let z = entry_of p (difference q) (tt, parts.0, parts.1) in
    let f = form (difference q) in
    let g = put (length p.nums) o f in
    let value_is : Some z.0 ≡ Some (minus x.0 y.0) = sym z.1 ∙ ap₂ (λ o s. both (λ u v. Some (minus u v)) o s) x.1 y.1 in
    let square : pos 0 <ℤ (p.den *ℤ p.den) = mul_pos p.den p.den p.positive p.positive in
    let den : pos 0 <ℤ (f.den *ℤ (p.den *ℤ p.den)) = mul_pos f.den (p.den *ℤ p.den) z.2.den square in
    let put_den : pos 0 <ℤ (f.den *ℤ (o.den *ℤ o.den) *ℤ (p.den *ℤ p.den)) = mul_pos (f.den *ℤ (o.den *ℤ o.den)) (p.den *ℤ p.den) (mul_pos f.den (o.den *ℤ o.den) z.2.den (mul_pos o.den o.den o.positive o.positive)) square in
    let same : SameRatio z.0 (form_value p g) = cross_on z.0.top z.0.bottom (form_value p f).top (form_value p f).bottom (form_value p g).top (form_value p g).bottom den z.2.same (keeps_value o f p factors has) in
    let r = related_by q.relation x.0 y.0 (form_value p g).top (form_value p g).bottom x.2.bottom y.2.bottom put_den (subst (λ v. SameRatio v (form_value p g)) (same_Some z.0 (minus x.0 y.0) value_is) same) in
    subst₂ (λ o t. AreRelated q.relation o t ↔ IsObeyed q.relation (form_value p g).top) (sym x.1) (sym y.1) r
