-- What the answer of a search shows of the system, and that it makes a certificate.
use Rattle.std.proofs.Common.{◌≡◌, ℕ, ◌<◌, ◌*ℤ◌, List, [], length, Option, Some, None, Result, Ok, Err, IfOk, arith, refl, sym, ap, subst, ◌∙◌}
use Rattle.emp_algebra.proofs.Order.{linear}
use Rattle.emp_num.specs.Point.{Point, StandsFor}
use Rattle.emp_num.specs.declared.frac.Frac.{Frac}
use Rattle.emp_num.proofs.Commons.{common_point, stands_for_common}
use Rattle.emp_rows.specs.declared.affine.Affine.{Affine}
use Rattle.emp_rows.specs.declared.system.RowSystem.{RowSystem}
use Rattle.emp_rows.specs.RowPoints.{value_at}
use Rattle.emp_rows.proofs.Pairs.{few_pairs}
use Rattle.emp_cert.specs.declared.cert.Verdict.{Verdict}
use Rattle.emp_cert.specs.declared.cert.Verdict.TheVariants.{Point as PointVerdict, Missing, Best, Unbounded}
use Rattle.emp_cert.specs.Certs.{Counts, LinksFit, VerdictFits}
use Rattle.emp_cert.specs.declared.cert.Found.{Found}
use Rattle.emp_cert.specs.Verdicts.{IsRowRay, VerdictShown}
use Rattle.emp_dict.specs.declared.label.Label.TheVariants.{Objective}
use Rattle.emp_dict.specs.Dictionary.{Dictionary, line_at, row_label, row_of, objective_value}
use Rattle.emp_step.proofs.Labels.{row_found, row_none}
use Rattle.emp_decide.specs.Reads.{value_by, value_of, IsPointOf}
use Rattle.emp_decide.specs.Laws.{IsDictionaryOf, IsLabelOf, worth}
use Rattle.emp_decide.proofs.Points.{points_tell}
use Rattle.emp_decide.proofs.Decides.{has_objective}
use Rattle.emp_search.specs.Search.{point, ray, State, Searched, closed, found, search_of}
use Rattle.emp_search.specs.Shown.{Reaches, ShowsFor, IsSolved, BestIs, FoundIs, IsShown, SearchShows}
use Rattle.emp_search.proofs.Rooted.{searches_show}
use Rattle.emp_walk.specs.Courses.{WrittenFit}
use Rattle.emp_walk.specs.declared.fault.WalkFault.{WalkFault}
use Rattle.emp_walk.specs.declared.search.Answer.{Answer}
use Rattle.emp_walk.specs.Searches.{AnswerGives, VerdictGives}
use Rattle.emp_walk.specs.Founds.{NamesSystem, answer_of, FoundGives, CertGives, IsWalkVerdict, IsBestVerdict}

-- ---- the point of an incumbent reaches it
reaches_own : (s : RowSystem) (o : Affine) (d : Dictionary) (fs : List Frac) (x : Point) → IsDictionaryOf s d → s.objective ≡ Some o → IsPointOf d fs → StandsFor fs x → Reaches o x d
reaches_own s o d fs x t e p st = go (row_of d Objective) refl (points_tell s d fs x t p st Objective is_label)
  where
    there : length d.marks < length d.rows
    there = has_objective s d o t e

    label : row_label d (length d.marks) ≡ Objective
    label = t.sound.objective there

    is_label : IsLabelOf d Objective
    is_label = subst (λ v. IsLabelOf d v) label (t.sound.row_labels (length d.marks) there)

    value : worth s x.den x.nums Objective ≡ value_at o x
    value = ap (λ f. objective_value f x.den x.nums) e

    go : (w : Option ℕ) → row_of d Objective ≡ w → worth s x.den x.nums Objective *ℤ (value_of d Objective).bottom ≡ (value_of d Objective).top *ℤ x.den → Reaches o x d
    go None q h = absurd (row_none d Objective q (length d.marks) there label)
    go (Some i) q h =
        let w = row_found d Objective i q in
        let same : i ≡ length d.marks = t.sound.rows_once i (length d.marks) w.below there (w.label ∙ sym label) in
        let at : worth s x.den x.nums Objective *ℤ (line_at d i).denom ≡ (line_at d i).constant *ℤ x.den = subst (λ o. worth s x.den x.nums Objective *ℤ (value_by d o).bottom ≡ (value_by d o).top *ℤ x.den) q h in
        let here : value_at o x *ℤ (line_at d (length d.marks)).denom ≡ (line_at d (length d.marks)).constant *ℤ x.den = ap (λ z. z *ℤ (line_at d (length d.marks)).denom) (sym value) ∙ subst (λ k. worth s x.den x.nums Objective *ℤ (line_at d k).denom ≡ (line_at d k).constant *ℤ x.den) same at in
        omega (arith, linear)

-- ---- what the search shows, of how it ended
shows_at : (s : RowSystem) (whole : Searched) → SearchShows s whole → (r : Searched) → whole ≡ r → SearchShows s r
shows_at s whole shown r e = subst (SearchShows s) e shown

best_shown : (s : RowSystem) (st : State) (d : Dictionary) → st.best ≡ Some d → IsShown s st → ((o : Affine) × (s.objective ≡ Some o)) × IsSolved s d
best_shown s st d e h = subst (BestIs s) e h.best

pub verdict_shown : (s : RowSystem) (whole : Searched) → SearchShows s whole → (st : State) (v : Verdict) → VerdictGives whole st v → VerdictShown s v
verdict_shown s whole shown st (PointVerdict fs) g =
    let h : FoundIs s (point g.0) = shows_at s whole shown (found (point g.0) st) g.1 in
    (h.0, λ p k. h.1.solves fs p g.2 k)
verdict_shown s whole shown st (Missing t) g =
    let h : IsShown s st = shows_at s whole shown (closed st) g.0 in
    (h.tree, sym h.written ∙ sym g.2, subst (λ b. ShowsFor s b [] h.tree) g.1 h.shows)
verdict_shown s whole shown st (Best fs t) g =
    let h : IsShown s st = shows_at s whole shown (closed st) g.1 in
    let b = best_shown s st g.0 g.2 h in
    let shows : ShowsFor s (Some g.0) [] h.tree = subst (λ x. ShowsFor s x [] h.tree) g.2 h.shows in
    (b.0.0, b.0.1, (h.tree, sym h.written ∙ sym g.4, λ p k. (b.1.solves fs p g.3 k, shows b.0.0 b.0.1 p (reaches_own s b.0.0 g.0 fs p b.1.dictionary b.0.1 g.3 k))))
verdict_shown s whole shown st (Unbounded fs gs) g =
    let h : FoundIs s (ray g.0 g.1 g.2) = shows_at s whole shown (found (ray g.0 g.1 g.2) st) g.3 in
    (h.0.0, h.0.1, λ p y k l. h.1 fs gs p y g.4 g.5 k l)

-- ---- the lists of a verdict are as long as the system says
point_width : (s : RowSystem) (d : Dictionary) (fs : List Frac) → IsDictionaryOf s d → IsPointOf d fs → length fs ≡ s.base
point_width s d fs t p = p.count ∙ t.columns

ray_widths : (s : RowSystem) (fs gs : List Frac) → ((p y : Point) → StandsFor fs p → StandsFor gs y → IsRowRay s p y) → (length fs ≡ s.base) × (length gs ≡ s.base)
ray_widths s fs gs h =
    let k = stands_for_common fs in
    let l = stands_for_common gs in
    let r = h (common_point fs) (common_point gs) k l in
    (sym k.count ∙ r.point.count, sym l.count ∙ r.count)

pub verdict_fits : (s : RowSystem) (whole : Searched) → SearchShows s whole → (st : State) (v : Verdict) → VerdictGives whole st v → WrittenFit s st.written → VerdictFits s.base (length s.quantities) (length s.pairs) v
verdict_fits s whole shown st (PointVerdict fs) g w =
    let h : FoundIs s (point g.0) = shows_at s whole shown (found (point g.0) st) g.1 in
    point_width s g.0 fs h.1.dictionary g.2
verdict_fits s whole shown st (Missing t) g w = subst (WrittenFit s) (sym g.2) w
verdict_fits s whole shown st (Best fs t) g w =
    let h : IsShown s st = shows_at s whole shown (closed st) g.1 in
    let b = best_shown s st g.0 g.2 h in
    (point_width s g.0 fs b.1.dictionary g.3, subst (WrittenFit s) (sym g.4) w)
verdict_fits s whole shown st (Unbounded fs gs) g w =
    let h : FoundIs s (ray g.0 g.1 g.2) = shows_at s whole shown (found (ray g.0 g.1 g.2) st) g.3 in
    ray_widths s fs gs (λ p y k l. h.1 fs gs p y g.4 g.5 k l)

-- ---- certificates
pub links_fit : (s : RowSystem) → LinksFit (length s.quantities) (length s.pairs) s.pairs
links_fit s = record {
  count = refl;
  first = λ k d b. let m = s.sound.first_members k d b in let w = m.within in let o = s.sound.one_kind_each in (m.above, omega arith);
  second = λ k d b. let m = s.sound.second_members k d b in let w = m.within in let o = s.sound.one_kind_each in (m.above, omega arith);
}

pub found_gives : (s : RowSystem) (units : ℕ) (a : Answer) (f : Found) → AnswerGives (search_of s units) units a → NamesSystem s f → answer_of f ≡ a → FoundGives s units f
found_gives s units a f g n e = record {
  names = n;
  answer = subst (AnswerGives (search_of s units) units) (sym e) g;
  shown = subst (λ (x : Answer). VerdictShown s x.verdict) (sym e) (verdict_shown s (search_of s units) (searches_show s units) g.state a.verdict g.verdict);
}

walk_kind : (s : RowSystem) (v : Verdict) → s.objective ≡ None → VerdictShown s v → IsWalkVerdict v
walk_kind s (PointVerdict fs) e h = tt
walk_kind s (Missing t) e h = tt
walk_kind s (Best fs t) e h = let z : None ≡ Some h.0 = sym e ∙ h.1 in absurd (cc)
walk_kind s (Unbounded fs gs) e h = let z : None ≡ Some h.0 = sym e ∙ h.1 in absurd (cc)

best_kind : (s : RowSystem) (v : Verdict) (o : Affine) → s.objective ≡ Some o → VerdictShown s v → IsBestVerdict v
best_kind s (PointVerdict fs) o e h = let z : None ≡ Some o = sym h.0 ∙ e in absurd (cc)
best_kind s (Missing t) o e h = tt
best_kind s (Best fs t) o e h = tt
best_kind s (Unbounded fs gs) o e h = tt

pub walk_kinds : (s : RowSystem) (units : ℕ) (r : Result Found WalkFault) → s.objective ≡ None → CertGives s units r → IfOk r (λ f. IsWalkVerdict f.cert.verdict)
walk_kinds s units (Ok f) e g = walk_kind s f.cert.verdict e g.shown
walk_kinds s units (Err x) e g = tt

pub best_kinds : (s : RowSystem) (units : ℕ) (r : Result Found WalkFault) → (o : Affine) × (s.objective ≡ Some o) → CertGives s units r → IfOk r (λ f. IsBestVerdict f.cert.verdict)
best_kinds s units (Ok f) e g = best_kind s f.cert.verdict e.0 e.1 g.shown
best_kinds s units (Err x) e g = tt

pub links_by : (s : RowSystem) (q p : ℕ) (ls ps : List (ℕ × ℕ)) → q ≡ length s.quantities → p ≡ length s.pairs → ls ≡ s.pairs → Some ls ≡ Some ps → LinksFit q p ps
links_by s q p ls ps eq ep el e =
    let same : s.pairs ≡ ps = cc in
    subst (λ x. LinksFit x p ps) (sym eq) (subst (λ x. LinksFit (length s.quantities) x ps) (sym ep) (subst (LinksFit (length s.quantities) (length s.pairs)) same (links_fit s)))

pub verdict_by : (s : RowSystem) (q p : ℕ) (v : Verdict) → q ≡ length s.quantities → p ≡ length s.pairs → VerdictFits s.base (length s.quantities) (length s.pairs) v → VerdictFits s.base q p v
verdict_by s q p v eq ep h = subst (λ x. VerdictFits s.base x p v) (sym eq) (subst (λ x. VerdictFits s.base (length s.quantities) x v) (sym ep) h)

pub counts_by : (s : RowSystem) (q p : ℕ) → q ≡ length s.quantities → p ≡ length s.pairs → Counts s.base q p
counts_by s q p eq ep = record { few_variables = s.sound.few_variables; few_quantities = let f = s.sound.few_quantities in omega arith; few_pairs = let f = few_pairs s in omega arith }
