-- `solve` has one outcome.
use Rattle.std.proofs.Common.{◌≡◌, ◌≢◌, ◌⊎◌, inl, inr, ℕ, List, length, take, Option, Some, None, Result, Ok, Err, arith, refl, sym, ap, subst, ◌∙◌}
use Rattle.std.proofs.lemmas.List.{length-take-le}
use Rattle.std.proofs.lemmas.Option.{same_Some, none-some}
use Rattle.emp_num.specs.declared.frac.Frac.{Frac}
use Rattle.emp_command.specs.Words.{Asked}
use Rattle.emp_command.specs.Course.{Outcome, refusal}
use Rattle.emp_ast.specs.declared.tree.VarId.{VarId}
use Rattle.emp_ast.specs.declared.model.Model.{Model}
use Rattle.emp_ast.specs.declared.annot.Annot.{Annot}
use Rattle.emp_ast.specs.Names.{variable_names}
use Rattle.emp_owner.specs.declared.owned.OwnFault.{OwnFault}
use Rattle.emp_cert.specs.declared.cert.Cert.{Cert}
use Rattle.emp_cert.specs.declared.cert.Found.{Found}
use Rattle.emp_cert.specs.declared.cert.Verdict.{Verdict}
use Rattle.emp_cert.specs.declared.cert.Verdict.TheVariants.{Point, Missing, Best, Unbounded}
use Rattle.emp_cert.specs.Certs.{VerdictFits}
use Rattle.emp_report.specs.CertLines.{long_line}
use Rattle.emp_subst.specs.declared.fault.FillFault.{FillFault}
use Rattle.emp_subst.specs.declared.fault.FillFault.TheVariants as FillWords
use Rattle.emp_subst.specs.Fill.{spread}
use Rattle.emp_walk.specs.declared.fault.WalkFault.{WalkFault}
use Rattle.emp_walk.specs.declared.fault.WalkFault.TheVariants as WalkWords
use Rattle.emp_walk.specs.Founds.{CertGives}
use Rattle.emp_solution.specs.declared.state.StateFault.{StateFault}
use Rattle.emp_solution.specs.declared.state.StateFault.TheVariants as StateWords
use Rattle.emp_solution.specs.declared.state.Stated.{Stated}
use Rattle.emp_solution.specs.Stated.{IsStated}
use Rattle.emp_solution.proofs.Fit.{base_reaches}
use Rattle.emp_report.specs.Report.{equilibrium_report, best_report, unbounded_report}
use Rattle.emp_report.specs.ClassLines.{value_line}
use Rattle.emp_report.specs.TextLines.{own_line}
use Rattle.emp_unique.proofs.States.{one_state, stated_has_no_fault}
use Rattle.emp_outcomes.specs.Outcomes.{IsNamedFault, Refuses, bad_owner, unstated, state_status, state_line, walk_status, walk_line, Fills, verdict_point, IsUnfilled, IsPointReport, ReportOf, IsReport, cert_stores, CertFits, CertIsLong, Solves, refused, unfinished, unfilled, too_long, answered}
use Rattle.emp_outcome_laws.specs.Laws.{OneAnswer}
use Rattle.emp_outcome_laws.proofs.Broken.{one_broken, none_broken}
use Rattle.emp_outcome_laws.proofs.Faults.{one_fault}
use Rattle.emp_outcome_laws.proofs.Founds.{one_end}
use Rattle.emp_outcome_laws.proofs.Fillings.{one_filling}

-- ---- files that are refused
fault_named : (f : StateFault) → IsNamedFault f → f ≢ StateWords.NoMemory
fault_named f n e = subst IsNamedFault e n

module _ (m : Model) (a : Annot) where
  pub one_refusal : (o p : Outcome) → Refuses m a o → Refuses m a p → o ≡ p
  one_refusal o p (bad_owner f n b) (bad_owner g k c) = ap (λ (x : OwnFault). refusal 16 (own_line m x)) (one_broken m a f g n k b c)
  one_refusal o p (bad_owner f n b) (unstated g k kept c) = absurd (none_broken m a f n kept b)
  one_refusal o p (unstated f n kept b) (bad_owner g k c) = absurd (none_broken m a g k kept c)
  one_refusal o p (unstated f n kept b) (unstated g k also c) =
      ap (λ (x : StateFault). refusal (state_status x) (state_line m x)) (one_fault m a f g (fault_named f n) (fault_named g k) b c)

  -- a file that has a row system is not refused
  pub not_refused : (s : Stated) (o : Outcome) → IsStated m a s → Refuses m a o → ⊥
  not_refused s o h (bad_owner f n b) = none_broken m a f n h.class.kept b
  not_refused s o h (unstated f n kept g) = fault_named f n (stated_has_no_fault m a s f h g)

-- ---- values of a point of the system
module _ (m : Model) (a : Annot) (s : Stated) (h : IsStated m a s) where
  one_fills : (fs : List Frac) (r t : Result (List Frac) FillFault) → length fs ≡ s.system.base → r ≢ Err FillWords.NoMemory → t ≢ Err FillWords.NoMemory → Fills m a s fs r → Fills m a s fs t → r ≡ t
  one_fills fs r t count n o x y =
      let reach = base_reaches s.problem s.system h.rows in
      one_filling m a s.problem (take (length s.problem.variables) fs) r t h.class h.problem (length-take-le (length s.problem.variables) fs (omega (arith, reach, count))) n o x y

ok_named : (values : List Frac) → ◌≢◌ {A = Result (List Frac) FillFault} (Ok values) (Err FillWords.NoMemory)
ok_named values e = cc

wide_named : (w : VarId) → ◌≢◌ {A = Result (List Frac) FillFault} (Err (FillWords.Wide w)) (Err FillWords.NoMemory)
wide_named w e = cc

ok_inside : (v w : List Frac) → ◌≡◌ {A = Result (List Frac) FillFault} (Ok v) (Ok w) → v ≡ w
ok_inside v w e = cc

wide_inside : (v w : VarId) → ◌≡◌ {A = Result (List Frac) FillFault} (Err (FillWords.Wide v)) (Err (FillWords.Wide w)) → v ≡ w
wide_inside v w e = cc

ok_wide : (v : List Frac) (w : VarId) → ◌≡◌ {A = Result (List Frac) FillFault} (Ok v) (Err (FillWords.Wide w)) → ⊥
ok_wide v w e = cc

-- the point of a verdict has one number for each base variable
point_count : (base quantities pairs : ℕ) (v : Verdict) (fs : List Frac) → VerdictFits base quantities pairs v → verdict_point v ≡ Some fs → length fs ≡ base
point_count b q p (Point gs) fs h e = ap (λ (xs : List Frac). length xs) (sym (same_Some gs fs e)) ∙ h
point_count b q p (Missing t) fs h e = absurd (none-some fs e)
point_count b q p (Best gs t) fs h e = ap (λ (xs : List Frac). length xs) (sym (same_Some gs fs e)) ∙ h.0
point_count b q p (Unbounded gs ys) fs h e = ap (λ (xs : List Frac). length xs) (sym (same_Some gs fs e)) ∙ h.0

-- ---- what is said of what was found
module _ (m : Model) (a : Annot) (s : Stated) (f : Found) (h : IsStated m a s) where
  -- one number for each base variable
  abbrev HasCount : List Frac → Type 0
  HasCount fs = length fs ≡ s.system.base

  point_reports : (fs : List Frac) (status : ℕ) (text : List Frac → List ℕ) (t u : ℕ × List ℕ) → HasCount fs → IsPointReport m a s fs status text t → IsPointReport m a s fs status text u → t ≡ u
  point_reports fs status text t u count x y =
      let same = ok_inside x.values y.values (one_fills m a s h fs (Ok x.values) (Ok y.values) count (ok_named x.values) (ok_named y.values) x.fills y.fills) in
      x.is ∙ (ap (λ (vs : List Frac). (status, text vs)) same ∙ sym y.is)

  one_report : (v : Verdict) (t u : ℕ × List ℕ) → ((fs : List Frac) → verdict_point v ≡ Some fs → HasCount fs) → ReportOf m a s f v t → ReportOf m a s f v u → t ≡ u
  one_report (Point fs) t u long x y = point_reports fs 0 (λ vs. equilibrium_report f.work (variable_names m) vs) t u (long fs refl) x y
  one_report (Missing n) t u long x y = x ∙ sym y
  one_report (Best fs n) t u long x y = point_reports fs 0 (λ vs. best_report f.work (variable_names m) vs) t u (long fs refl) x y
  one_report (Unbounded fs gs) t u long x y = point_reports fs 2 (λ vs. unbounded_report f.work (variable_names m) vs (spread m a gs)) t u (long fs refl) x y

  one_unfilled : (v : Verdict) (w z : VarId) → ((fs : List Frac) → verdict_point v ≡ Some fs → HasCount fs) → IsUnfilled m a s v w → IsUnfilled m a s v z → w ≡ z
  one_unfilled v w z long x y =
      let same = same_Some x.point y.point (sym x.is ∙ y.is) in
      wide_inside w z
      (one_fills m a s h y.point (Err (FillWords.Wide w)) (Err (FillWords.Wide z)) (long y.point y.is) (wide_named w) (wide_named z)
      (subst (λ (fs : List Frac). Fills m a s fs (Err (FillWords.Wide w))) same x.fills) y.fills)

  no_values : (fs : List Frac) (status : ℕ) (text : List Frac → List ℕ) (t : ℕ × List ℕ) (v : Verdict) (w : VarId) → HasCount fs → verdict_point v ≡ Some fs → IsPointReport m a s fs status text t → IsUnfilled m a s v w → ⊥
  no_values fs status text t v w count e x y =
      let same = same_Some y.point fs (sym y.is ∙ e) in
      ok_wide x.values w
      (one_fills m a s h fs (Ok x.values) (Err (FillWords.Wide w)) count (ok_named x.values) (wide_named w) x.fills (subst (λ (gs : List Frac). Fills m a s gs (Err (FillWords.Wide w))) same y.fills))

  no_report : (v : Verdict) (t : ℕ × List ℕ) (w : VarId) → ((fs : List Frac) → verdict_point v ≡ Some fs → HasCount fs) → ReportOf m a s f v t → IsUnfilled m a s v w → ⊥
  no_report (Point fs) t w long x y = no_values fs 0 (λ vs. equilibrium_report f.work (variable_names m) vs) t (Point fs) w (long fs refl) refl x y
  no_report (Missing n) t w long x y = none-some y.point y.is
  no_report (Best fs n) t w long x y = no_values fs 0 (λ vs. best_report f.work (variable_names m) vs) t (Best fs n) w (long fs refl) refl x y
  no_report (Unbounded fs gs) t w long x y = no_values fs 2 (λ vs. unbounded_report f.work (variable_names m) vs (spread m a gs)) t (Unbounded fs gs) w (long fs refl) refl x y

-- ---- the outcomes of a search
data Told (m : Model) (a : Annot) (r : Asked) (s : Stated) (f : Found) : Outcome → Type 0 where
  wide_value : (w : VarId) → IsUnfilled m a s f.cert.verdict w → Told m a r s f (refusal 19 (value_line m w))
  long_text : (t : ℕ × List ℕ) → IsReport m a s f t → CertIsLong r.output f.cert → Told m a r s f (refusal 24 long_line)
  report_said : (t : ℕ × List ℕ) → IsReport m a s f t → CertFits r.output f.cert → Told m a r s f (record { status = t.0; stores = cert_stores r.output f.cert; says = t.1 })

-- what is said of a result
abbrev Says : Model → Annot → Asked → Stated → Result Found WalkFault → Outcome → Type 0
Says m a r s (Ok f) o = Told m a r s f o
Says m a r s (Err f) o = o ≡ refusal (walk_status f) (walk_line f)

-- the file has rows, and their search with so many units ends with the result, of which this is the outcome
record Ended (m : Model) (a : Annot) (r : Asked) (o : Outcome) : Type 0 where
  stated : Stated
  result : Result Found WalkFault
  is : IsStated m a stated
  named : result ≢ Err WalkWords.NoMemory
  gives : CertGives stated.system r.work result
  says : Says m a r stated result o

found_named : (f : Found) → ◌≢◌ {A = Result Found WalkFault} (Ok f) (Err WalkWords.NoMemory)
found_named f e = cc

walk_inside : (f g : WalkFault) → ◌≡◌ {A = Result Found WalkFault} (Err f) (Err g) → f ≡ g
walk_inside f g e = cc

ended_of : (m : Model) (a : Annot) (r : Asked) (o : Outcome) → Solves m a r o → Refuses m a o ⊎ Ended m a r o
ended_of m a r o (refused p h) = inl h
ended_of m a r o (unfinished s f n h g) = inr (record { stated = s; result = Err f; is = h; named = λ e. n (walk_inside f WalkWords.NoMemory e); gives = g; says = refl })
ended_of m a r o (unfilled s f w h g x) = inr (record { stated = s; result = Ok f; is = h; named = found_named f; gives = g; says = wide_value w x })
ended_of m a r o (too_long s f t h g x l) = inr (record { stated = s; result = Ok f; is = h; named = found_named f; gives = g; says = long_text t x l })
ended_of m a r o (answered s f t h g x l) = inr (record { stated = s; result = Ok f; is = h; named = found_named f; gives = g; says = report_said t x l })

long_or_not : (o : Option (List ℕ)) (c : Cert) → CertIsLong o c → CertFits o c → ⊥
long_or_not None c l f = l
long_or_not (Some name) c l f = omega (arith, l, f)

module _ (m : Model) (a : Annot) (r : Asked) (s : Stated) (h : IsStated m a s) where
  one_told : (f : Found) (o p : Outcome) → CertGives s.system r.work (Ok f) → Told m a r s f o → Told m a r s f p → o ≡ p
  one_told f o p g x y = go o p x y
    where
      long : (fs : List Frac) → verdict_point f.cert.verdict ≡ Some fs → length fs ≡ s.system.base
      long fs e = point_count f.cert.base f.cert.quantities f.cert.pairs f.cert.verdict fs f.cert.fits e ∙ g.names.base

      said : (t u : ℕ × List ℕ) → t ≡ u → ◌≡◌ {A = Outcome} (record { status = t.0; stores = cert_stores r.output f.cert; says = t.1 }) (record { status = u.0; stores = cert_stores r.output f.cert; says = u.1 })
      said t u e = rw e refl

      go : (o p : Outcome) → Told m a r s f o → Told m a r s f p → o ≡ p
      go o p (wide_value w x) (wide_value z y) = ap (λ (u : VarId). refusal 19 (value_line m u)) (one_unfilled m a s f h f.cert.verdict w z long x y)
      go o p (wide_value w x) (long_text t y l) = absurd (no_report m a s f h f.cert.verdict t w long y x)
      go o p (wide_value w x) (report_said t y l) = absurd (no_report m a s f h f.cert.verdict t w long y x)
      go o p (long_text t x l) (wide_value w y) = absurd (no_report m a s f h f.cert.verdict t w long x y)
      go o p (long_text t x l) (long_text u y k) = refl
      go o p (long_text t x l) (report_said u y k) = absurd (long_or_not r.output f.cert l k)
      go o p (report_said t x l) (wide_value w y) = absurd (no_report m a s f h f.cert.verdict t w long x y)
      go o p (report_said t x l) (long_text u y k) = absurd (long_or_not r.output f.cert k l)
      go o p (report_said t x l) (report_said u y k) = said t u (one_report m a s f h f.cert.verdict t u long x y)

  one_said : (x : Result Found WalkFault) (o p : Outcome) → CertGives s.system r.work x → Says m a r s x o → Says m a r s x p → o ≡ p
  one_said (Ok f) o p g x y = one_told f o p g x y
  one_said (Err f) o p g x y = x ∙ sym y

ended_same : (m : Model) (a : Annot) (r : Asked) (o p : Outcome) → Ended m a r o → Ended m a r p → o ≡ p
ended_same m a r o p x y = at x.stated (one_state m a y.stated x.stated y.is x.is) x.is x.gives x.says
  where
    at : (s : Stated) → y.stated ≡ s → IsStated m a s → CertGives s.system r.work x.result → Says m a r s x.result o → o ≡ p
    at s e is gives says =
        let there = subst (λ (t : Stated). CertGives t.system r.work y.result) e y.gives in
        let same = one_end s.system r.work y.result x.result y.named x.named there gives in
        one_said m a r s is x.result o p gives says
        (subst (λ (z : Result Found WalkFault). Says m a r s z p) same (subst (λ (t : Stated). Says m a r t y.result p) e y.says))

pub one_answer : OneAnswer
one_answer m a r o p x y = go (ended_of m a r o x) (ended_of m a r p y)
  where
    go : Refuses m a o ⊎ Ended m a r o → Refuses m a p ⊎ Ended m a r p → o ≡ p
    go (inl h) (inl k) = one_refusal m a o p h k
    go (inl h) (inr k) = absurd (not_refused m a k.stated o k.is h)
    go (inr h) (inl k) = absurd (not_refused m a h.stated p h.is k)
    go (inr h) (inr k) = ended_same m a r o p h k
