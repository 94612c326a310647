-- An accepted certificate is sized, linked and shown; and one that is so is accepted, or wide.
use Rattle.std.proofs.Common.{◌≡◌, inl, ℕ, Bool, true, false, cond, ◌&&◌, nat_eq, eqb-true, eq-eqb, List, [], ◌∷◌, length, Option, Some, None, All, refl, sym, ap, ap₂, ◌∙◌, subst}
use Rattle.emp_num.specs.declared.frac.Frac.{Frac}
use Rattle.emp_num.specs.Point.{Point, StandsFor}
use Rattle.emp_num.proofs.Commons.{common_point, stands_for_common}
use Rattle.emp_rows.specs.declared.affine.Affine.{Affine}
use Rattle.emp_rows.specs.declared.system.RowSystem.{RowSystem}
use Rattle.emp_rows.specs.Values.{measured}
use Rattle.emp_cert.specs.declared.cert.Cert.{Cert}
use Rattle.emp_cert.specs.declared.cert.Verdict.{Verdict}
use Rattle.emp_cert.specs.declared.cert.Verdict.TheVariants.{Point as PointVerdict, Missing, Best, Unbounded}
use Rattle.emp_cert.specs.declared.tree.Node.{Node}
use Rattle.emp_cert.specs.Certs.{NodeFits, VerdictFits}
use Rattle.emp_cert.specs.Deciders.{NodeTree, preorder, ShowsNone, ShowsBest}
use Rattle.emp_cert.specs.Verdicts.{VerdictShown}
use Rattle.emp_cert.proofs.Forests.{some_tree}
use Rattle.emp_check.specs.declared.outcome.Checked.TheVariants.{Accepted, Rejected}
use Rattle.emp_check.specs.declared.outcome.Why.TheVariants.{Sizes, Pairs}
use Rattle.emp_check.specs.Checks.{LinksAre, SizesAre, links_fit, same_pairs, sizes_fit, level_by, verdict_checked, checked}
use Rattle.emp_check.specs.Heads.{point_test, ray_test}
use Rattle.emp_check.specs.Laws.{Ends}
use Rattle.emp_check.specs.Levels.{nothing}
use Rattle.emp_check.specs.Tests.{and_then}
use Rattle.emp_check.specs.Trees.{nodes_test}
use Rattle.emp_check.proofs.Complete.{at_leaf, shown_none, shown_best}
use Rattle.emp_check.proofs.Forests.{passed}
use Rattle.emp_check.proofs.Passing.{passes_then}
use Rattle.emp_check.proofs.Rays.{point_passed, point_passes, ray_passed, ray_passes}
use Rattle.emp_check.proofs.Shown.{accepted_none, accepted_best}
use Rattle.emp_check.proofs.Sums.{both}

-- a point that the fractions stand for
some_point : (fs : List Frac) → (p : Point) × StandsFor fs p
some_point fs = (common_point fs, stands_for_common fs)

-- ---- what is accepted is shown
module _ (s : RowSystem) where
  abbrev Fit : Node → Type 0
  Fit x = NodeFits (length s.pairs) (length s.quantities) x

  none_shown : (ns : List Node) (u : NodeTree) → preorder u ≡ ns → All (λ x. NodeFits (length s.pairs) (length s.quantities) x) ns → nodes_test s nothing 1 (Some []) ns ≡ Accepted → ShowsNone s [] u
  none_shown ns u e f h = accepted_none s u (subst (λ (xs : List Node). All Fit xs) (sym e) f) (ap (nodes_test s nothing 1 (Some [])) e ∙ h)

  best_shown : (r : Affine) (fs : List Frac) (p : Point) (ns : List Node) (u : NodeTree) → s.objective ≡ Some r → StandsFor fs p → preorder u ≡ ns → All (λ x. NodeFits (length s.pairs) (length s.quantities) x) ns → nodes_test s (level_by (measured false r fs)) 1 (Some []) ns ≡ Accepted → ShowsBest s r p [] u
  best_shown r fs p ns u o st e f h = accepted_best s r fs p u o st (subst (λ (xs : List Node). All Fit xs) (sym e) f) (ap (nodes_test s (level_by (measured false r fs)) 1 (Some [])) e ∙ h)

  pub verdict_shown : (o : Option Affine) (v : Verdict) → s.objective ≡ o → VerdictFits s.base (length s.quantities) (length s.pairs) v → verdict_checked s o v ≡ Accepted → VerdictShown s v
  verdict_shown None (PointVerdict fs) o f e = (o, λ p st. point_passed s fs p f st (passed 0 (point_test s fs) Accepted e).0)
  verdict_shown (Some r) (PointVerdict fs) o f e = cc
  verdict_shown None (Missing t) o f e = let u = some_tree t.nodes t.whole in (u.0, u.1, none_shown t.nodes u.0 u.1 f e)
  verdict_shown (Some r) (Missing t) o f e = let u = some_tree t.nodes t.whole in (u.0, u.1, none_shown t.nodes u.0 u.1 f e)
  verdict_shown None (Best fs t) o f e = cc
  verdict_shown (Some r) (Best fs t) o f e =
      let h = passed 0 (point_test s fs) (nodes_test s (level_by (measured false r fs)) 1 (Some []) t.nodes) e in
      let u = some_tree t.nodes t.whole in
      (r, o, (u.0, u.1, λ p st. (point_passed s fs p f.0 st h.0, best_shown r fs p t.nodes u.0 o st u.1 f.1 h.1)))
  verdict_shown None (Unbounded fs gs) o f e = cc
  verdict_shown (Some r) (Unbounded fs gs) o f e =
      let h = both (point_test s fs) (ray_test s r fs gs) (passed 0 (and_then (point_test s fs) (ray_test s r fs gs)) Accepted e).0 in
      (r, o, λ p d st su. ray_passed s r fs gs p d o st su f.1 (point_passed s fs p f.0 st h.0) h.1)

  -- ---- what is shown is accepted, or wide
  ends_none : (ns : List Node) (u : NodeTree) → preorder u ≡ ns → ShowsNone s [] u → Ends (nodes_test s nothing 1 (Some []) ns)
  ends_none ns u e h = subst (λ (xs : List Node). Ends (nodes_test s nothing 1 (Some []) xs)) e (shown_none s u h)

  ends_best : (r : Affine) (fs : List Frac) (p : Point) (ns : List Node) (u : NodeTree) → s.objective ≡ Some r → StandsFor fs p → preorder u ≡ ns → ShowsBest s r p [] u → Ends (nodes_test s (level_by (measured false r fs)) 1 (Some []) ns)
  ends_best r fs p ns u o st e h = subst (λ (xs : List Node). Ends (nodes_test s (level_by (measured false r fs)) 1 (Some []) xs)) e (shown_best s r fs p u o st h)

  pub verdict_ends : (o : Option Affine) (v : Verdict) → s.objective ≡ o → VerdictShown s v → Ends (verdict_checked s o v)
  verdict_ends None (PointVerdict fs) o h =
      let q = some_point fs in
      at_leaf 0 (point_test s fs) Accepted (point_passes s fs q.0 q.1 (h.1 q.0 q.1)) (inl refl)
  verdict_ends (Some r) (PointVerdict fs) o h = let f = h.0 in cc
  verdict_ends None (Missing t) o h = ends_none t.nodes h.0 h.1 h.2
  verdict_ends (Some r) (Missing t) o h = ends_none t.nodes h.0 h.1 h.2
  verdict_ends None (Best fs t) o h = let f = h.1 in cc
  verdict_ends (Some r) (Best fs t) o h =
      let q = some_point fs in
      let g = h.2.2 q.0 q.1 in
      let same : h.0 ≡ r = let f = h.1 in cc in
      at_leaf 0 (point_test s fs) (nodes_test s (level_by (measured false r fs)) 1 (Some []) t.nodes) (point_passes s fs q.0 q.1 g.0) (ends_best r fs q.0 t.nodes h.2.0 o q.1 h.2.1 (subst (λ (a : Affine). ShowsBest s a q.0 [] h.2.0) same g.1))
  verdict_ends None (Unbounded fs gs) o h = let f = h.1 in cc
  verdict_ends (Some r) (Unbounded fs gs) o h =
      let q = some_point fs in
      let d = some_point gs in
      let v = h.2 q.0 d.0 q.1 d.1 in
      at_leaf 0 (and_then (point_test s fs) (ray_test s r fs gs)) Accepted (passes_then (point_test s fs) (ray_test s r fs gs) (point_passes s fs q.0 q.1 v.point) (ray_passes s r fs gs q.0 d.0 o q.1 d.1 v)) (inl refl)

-- ---- sizes
and_parts : (a b : Bool) → (a && b) ≡ true → (a ≡ true) × (b ≡ true)
and_parts true b e = (refl, e)
and_parts false b e = cc

pub sized : (s : RowSystem) (c : Cert) → sizes_fit s c ≡ true → SizesAre s c
sized s c e =
    let h = and_parts (nat_eq c.base s.base) (nat_eq c.quantities (length s.quantities) && nat_eq c.pairs (length s.pairs)) e in
    let k = and_parts (nat_eq c.quantities (length s.quantities)) (nat_eq c.pairs (length s.pairs)) h.1 in
    record { base = eqb-true c.base s.base h.0; quantities = eqb-true c.quantities (length s.quantities) k.0; pairs = eqb-true c.pairs (length s.pairs) k.1 }

pub verdict_fits : (s : RowSystem) (c : Cert) → sizes_fit s c ≡ true → VerdictFits s.base (length s.quantities) (length s.pairs) c.verdict
verdict_fits s c e =
    let h = sized s c e in
    subst (λ (n : ℕ). VerdictFits s.base n (length s.pairs) c.verdict) h.quantities
    (subst (λ (n : ℕ). VerdictFits s.base c.quantities n c.verdict) h.pairs
    (subst (λ (n : ℕ). VerdictFits n c.quantities c.pairs c.verdict) h.base c.fits))

same_are : (ps qs : List (ℕ × ℕ)) → same_pairs ps qs ≡ true → ps ≡ qs
same_are [] [] e = refl
same_are [] (q ∷ qs) e = cc
same_are (p ∷ ps) [] e = cc
same_are (p ∷ ps) (q ∷ qs) e =
    let h = and_parts (nat_eq p.0 q.0 && nat_eq p.1 q.1) (same_pairs ps qs) e in
    let k = and_parts (nat_eq p.0 q.0) (nat_eq p.1 q.1) h.0 in
    let a : p ≡ q = ap₂ (λ (x y : ℕ). (x, y)) (eqb-true p.0 q.0 k.0) (eqb-true p.1 q.1 k.1) in
    ap₂ (λ (x : ℕ × ℕ) (xs : List (ℕ × ℕ)). x ∷ xs) a (same_are ps qs h.1)

pub links_are : (s : RowSystem) (o : Option (List (ℕ × ℕ))) → links_fit s o ≡ true → LinksAre s o
links_are s None e = tt
links_are s (Some ps) e = same_are ps s.pairs e

-- ---- the other way
and_both : (a b : Bool) → a ≡ true → b ≡ true → (a && b) ≡ true
and_both a b e f = ap₂ (λ x y. x && y) e f

sizes_pass : (s : RowSystem) (c : Cert) → SizesAre s c → sizes_fit s c ≡ true
sizes_pass s c h = and_both (nat_eq c.base s.base) (nat_eq c.quantities (length s.quantities) && nat_eq c.pairs (length s.pairs)) (eq-eqb c.base s.base h.base) (and_both (nat_eq c.quantities (length s.quantities)) (nat_eq c.pairs (length s.pairs)) (eq-eqb c.quantities (length s.quantities) h.quantities) (eq-eqb c.pairs (length s.pairs) h.pairs))

same_itself : (ps : List (ℕ × ℕ)) → same_pairs ps ps ≡ true
same_itself [] = refl
same_itself (p ∷ ps) = and_both (nat_eq p.0 p.0 && nat_eq p.1 p.1) (same_pairs ps ps) (and_both (nat_eq p.0 p.0) (nat_eq p.1 p.1) (eq-eqb p.0 p.0 refl) (eq-eqb p.1 p.1 refl)) (same_itself ps)

links_pass : (s : RowSystem) (o : Option (List (ℕ × ℕ))) → LinksAre s o → links_fit s o ≡ true
links_pass s None h = refl
links_pass s (Some ps) h = subst (λ (qs : List (ℕ × ℕ)). same_pairs ps qs ≡ true) h (same_itself ps)

pub shown_ends : (s : RowSystem) (c : Cert) → SizesAre s c → LinksAre s c.links → VerdictShown s c.verdict → Ends (checked s c)
shown_ends s c z l h =
    subst (λ (b : Bool). Ends (cond b (cond (links_fit s c.links) (verdict_checked s s.objective c.verdict) (Rejected 0 Pairs)) (Rejected 0 Sizes))) (sym (sizes_pass s c z))
    (subst (λ (b : Bool). Ends (cond b (verdict_checked s s.objective c.verdict) (Rejected 0 Pairs))) (sym (links_pass s c.links l))
    (verdict_ends s s.objective c.verdict refl h))
