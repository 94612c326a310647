-- What an answer over the texts says of the files, by its status.
use Rattle.std.proofs.Common.{◌≡◌, ℕ, ◌<◌, ◌⊎◌, inl, inr, Bool, true, false, pos, List, [], ◌∷◌, ◌++◌, map, length, get_or, Ok, arith, refl, sym, ap, ap₂, subst, ◌∙◌}
use Rattle.emp_num.specs.declared.frac.Frac.{Frac}
use Rattle.emp_num.specs.Point.{Point, StandsFor}
use Rattle.emp_num.proofs.Commons.{common_point, stands_for_common}
use Rattle.emp_ast.specs.declared.model.Model.{Model}
use Rattle.emp_ast.specs.declared.annot.Annot.{Annot}
use Rattle.emp_ast.specs.Names.{variable_names}
use Rattle.emp_ast.specs.Parties.{is_defined}
use Rattle.emp_desk.specs.Desk.{Contents, Says}
use Rattle.emp_command.specs.declared.words.Verb.{Verb}
use Rattle.emp_command.specs.declared.words.Verb.TheVariants.{Solve, Check, Print, Make, Migrate}
use Rattle.emp_command.specs.Words.{Asked, Asks}
use Rattle.emp_command.specs.Course.{Outcome, StoresAll}
use Rattle.gms_read.specs.Texts.{IsModelText}
use Rattle.info_read.specs.Texts.{IsInfoText}
use Rattle.emp_poly.specs.declared.tree.PolyFault.{PolyFault}
use Rattle.emp_poly.specs.declared.tree.PolyFault.TheVariants as PolyWords
use Rattle.emp_report.specs.ClassLines.{poly_status}
use Rattle.emp_cert.specs.declared.cert.Found.{Found}
use Rattle.emp_cert.specs.declared.cert.Verdict.{Verdict}
use Rattle.emp_cert.specs.declared.cert.Verdict.TheVariants.{Point as PointVerdict, Missing, Best, Unbounded}
use Rattle.emp_walk.specs.declared.fault.WalkFault.{WalkFault}
use Rattle.emp_walk.specs.declared.fault.WalkFault.TheVariants as WalkWords
use Rattle.emp_cert.specs.Certs.{VerdictFits}
use Rattle.emp_cert.specs.Verdicts.{VerdictShown}
use Rattle.emp_walk.specs.Founds.{CertGives}
use Rattle.emp_ast.specs.Bilevel.{IsRay}
use Rattle.emp_problem.specs.Class.{SolvesFile}
use Rattle.emp_solution.specs.declared.state.Stated.{Stated}
use Rattle.emp_solution.specs.declared.state.StateFault.{StateFault}
use Rattle.emp_solution.specs.declared.state.StateFault.TheVariants as StateWords
use Rattle.emp_solution.specs.Stated.{IsStated}
use Rattle.emp_solution.proofs.Rows.{stated_has_rows}
use Rattle.emp_solution.proofs.Tells.{stated_tells, is_equilibrium, is_bilevel}
use Rattle.emp_solution.proofs.Back.{filled_is_file, spread_is_step}
use Rattle.emp_subst.specs.Fill.{spread}
use Rattle.emp_engine.proofs.Steps.{spread_still}
use Rattle.emp_report.specs.Report.{unbounded_report}
use Rattle.emp_outcomes.specs.Outcomes.{state_status, Refuses, bad_owner, unstated, walk_status, ReportOf, Solves, refused, unfinished, unfilled, too_long, answered, Unaccepted, no_rows, bad_text, rejected, wide_sum, Checks, unaccepted, accepted, Migrates, unmigrated, migrated_long, migrated}
use Rattle.emp_answers.specs.Answers.{Does, prints, solves, checks, migrates, Answers, unbuilt, bad_model, bad_info, done}
use Rattle.emp_engine.specs.Run.{TextsSay, Grows, IsSolution, point_report, SaysPoint, ShowsNone, SaysRay, IsAnswer, over_texts, market, IsAnswered}
use Rattle.emp_engine.proofs.Verbs.{solve_not_make}
use Rattle.emp_makes.specs.Makes.{Makes}
use Rattle.emp_makes.proofs.Ends.{makes_end}

-- ---- the files of a request
pub record FirstTwo (x : Contents) (fs : List (List ℕ)) (mt it : List ℕ) (rest : List (List ℕ)) : Type 0 where
  pub model_file : List ℕ
  pub info_file : List ℕ
  pub others : List (List ℕ)
  pub files : fs ≡ model_file ∷ info_file ∷ others
  pub model_is : mt ≡ x.holds model_file
  pub info_is : it ≡ x.holds info_file
  pub rest_is : rest ≡ map x.holds others

pub first_two : (x : Contents) (fs : List (List ℕ)) (mt it : List ℕ) (rest : List (List ℕ)) → map x.holds fs ≡ mt ∷ it ∷ rest → FirstTwo x fs mt it rest
first_two x [] mt it rest e = cc
first_two x (a ∷ []) mt it rest e = cc
first_two x (a ∷ b ∷ fs) mt it rest e = record { model_file = a; info_file = b; others = fs; files = refl; model_is = cc; info_is = cc; rest_is = cc }

texts_say : (words : List (List ℕ)) (x : Contents) (r : Asked) (mt it : List ℕ) (rest : List (List ℕ)) (m : Model) (a : Annot) → Asks words r → FirstTwo x r.files mt it rest → IsModelText mt m → IsInfoText it m a → TextsSay words x m a
texts_say words x r mt it rest m a asks t k i = record {
  request = r;
  asked = asks;
  model_file = t.model_file;
  info_file = t.info_file;
  others = t.others;
  files = t.files;
  model = subst (λ bs. IsModelText bs m) t.model_is k;
  info = subst (λ bs. IsInfoText bs m a) t.info_is i;
}

-- ---- what was done over a model and an annotation
pub record DoneAt (words : List (List ℕ)) (x : Contents) (r : Asked) (o : Outcome) : Type 0 where
  pub model : Model
  pub annot : Annot
  pub rest : List (List ℕ)
  pub others : List (List ℕ)
  pub texts : TextsSay words x model annot
  pub request : texts.request ≡ r
  pub others_are : texts.others ≡ others
  pub rest_is : rest ≡ map x.holds others
  pub does : Does model annot r rest o

done_at : (words : List (List ℕ)) (x : Contents) (r : Asked) (ts : List (List ℕ)) (o : Outcome) → Asks words r → map x.holds r.files ≡ ts → Answers r ts o → (o.status < 3) ⊎ ((15 < o.status) × (o.status < 30)) → DoneAt words x r o
unfolding texts_say
done_at words x r ts o asks e (unbuilt us h) (inl l) = absurd (omega arith)
done_at words x r ts o asks e (unbuilt us h) (inr l) = absurd (let k = l.1 in omega arith)
done_at words x r ts o asks e (bad_model mt it rest f b n h) (inl l) = absurd (omega arith)
done_at words x r ts o asks e (bad_model mt it rest f b n h) (inr l) = absurd (let k = l.0 in omega arith)
done_at words x r ts o asks e (bad_info mt it rest m f b t n h) (inl l) = absurd (omega arith)
done_at words x r ts o asks e (bad_info mt it rest m f b t n h) (inr l) = absurd (let k = l.0 in omega arith)
done_at words x r ts o asks e (done mt it rest m a p b t i h) l =
    let f = first_two x r.files mt it rest e in
    record { model = m; annot = a; rest = rest; others = f.others; texts = texts_say words x r mt it rest m a asks f t i; request = refl; others_are = refl; rest_is = f.rest_is; does = h }

-- a market's statuses
pub made_status : (words : List (List ℕ)) (x y : Contents) (end : ℕ) (n : IsAnswered words x y end) → n.request.verb ≡ Make → Makes n.request n.outcome → (end ≡ 0) ⊎ ((end ≡ 19) ⊎ (end ≡ 20))
made_status words x y end n v h = subst (λ s. (s ≡ 0) ⊎ ((s ≡ 19) ⊎ (s ≡ 20))) n.is (makes_end n.request n.outcome (n.range.1 v) h)

-- the answer is over texts
abbrev pub NotMade : Asked → Outcome → Type 0
NotMade r o = r.verb ≡ Make → Makes r o → ⊥

pub not_by_status : (words : List (List ℕ)) (x y : Contents) (end : ℕ) (n : IsAnswered words x y end) → (0 < end) × (end < 19) → NotMade n.request n.outcome
not_by_status words x y end n l v h = go (made_status words x y end n v h)
  where
    go : (end ≡ 0) ⊎ ((end ≡ 19) ⊎ (end ≡ 20)) → ⊥
    go (inl e) = omega (arith, l.0, e)
    go (inr (inl e)) = omega (arith, l.1, e)
    go (inr (inr e)) = omega (arith, l.1, e)

pub not_by_verb : (r : Asked) (o : Outcome) (v : Verb) → (v ≡ Make → ⊥) → r.verb ≡ v → NotMade r o
not_by_verb r o v n e w h = n (sym e ∙ w)

answer_done : (words : List (List ℕ)) (x : Contents) (r : Asked) (ts : List (List ℕ)) (o : Outcome) → Asks words r → map x.holds r.files ≡ ts → NotMade r o → IsAnswer r ts o → (o.status < 3) ⊎ ((15 < o.status) × (o.status < 30)) → DoneAt words x r o
answer_done words x r ts o asks e n (over_texts us p h) l = done_at words x r us p asks e h l
answer_done words x r ts o asks e n (market p v h) l = absurd (n v h)

pub done_now : (words : List (List ℕ)) (x y : Contents) (end : ℕ) (n : IsAnswered words x y end) → NotMade n.request n.outcome → (end < 3) ⊎ ((15 < end) × (end < 30)) → DoneAt words x n.request n.outcome
done_now words x y end n not l = answer_done words x n.request (map x.holds n.request.files) n.outcome n.asked refl not n.answers (subst (λ s. (s < 3) ⊎ ((15 < s) × (s < 30))) (sym n.is) l)

-- ---- what is stored and said
stores_keep_said : (ss : List (List ℕ × List ℕ)) (a b : Contents) → StoresAll ss a b → b.said ≡ a.said
stores_keep_said [] a b st = st.said
stores_keep_said (s ∷ ss) a b st = stores_keep_said ss st.0 b st.2 ∙ st.1.said

pub grows : (words : List (List ℕ)) (x y : Contents) (end : ℕ) (n : IsAnswered words x y end) (text : List ℕ) → n.outcome.says ≡ text → Grows text x y
grows words x y end n text e = n.said.said ∙ ap₂ (λ bs t. bs ++ t) (stores_keep_said n.outcome.stores x n.between n.stored) e

pub one_stored : (name text : List ℕ) (x b y : Contents) (says : List ℕ) → StoresAll ((name, text) ∷ []) x b → Says says b y → y.holds name ≡ text
one_stored name text x b y says st sa = sa.files name ∙ (st.2.files name ∙ st.1.here)

none_stored : (says : List ℕ) (x b y : Contents) → StoresAll [] x b → Says says b y → Says says x y
none_stored says x b y st sa = record { said = sa.said ∙ ap (λ bs. bs ++ says) st.said; files = λ name. sa.files name ∙ st.files name }

pub said_alone : (words : List (List ℕ)) (x y : Contents) (end : ℕ) (n : IsAnswered words x y end) (text : List ℕ) → n.outcome.stores ≡ [] → n.outcome.says ≡ text → Says text x y
said_alone words x y end n text e f = none_stored text x n.between y (subst (λ ss. StoresAll ss x n.between) e n.stored) (subst (λ t. Says t n.between y) f n.said)

-- ---- statuses of refusals
poly_high : (f : PolyFault) → 16 < poly_status f
poly_high (PolyWords.Degree p) = omega arith
poly_high (PolyWords.DivideByVariable p) = omega arith
poly_high (PolyWords.DivideByZero p) = omega arith
poly_high (PolyWords.Wide p) = omega arith
poly_high PolyWords.NoMemory = omega arith

pub state_high : (f : StateFault) → 16 < state_status f
state_high (StateWords.Poly f) = poly_high f
state_high (StateWords.Quadratic e u v) = omega arith
state_high (StateWords.LeaderNotLinear u v) = omega arith
state_high (StateWords.NotConvex b k) = omega arith
state_high (StateWords.WideCurve b k) = omega arith
state_high StateWords.TooLarge = omega arith
state_high (StateWords.WideRow k) = omega arith
state_high StateWords.NoMemory = omega arith

pub walk_high : (f : WalkFault) → 18 < walk_status f
walk_high (WalkWords.Wide node pivot) = omega arith
walk_high (WalkWords.Spent limit) = omega arith
walk_high WalkWords.NoMemory = omega arith

pub refuses_high : (m : Model) (a : Annot) (o : Outcome) → Refuses m a o → 15 < o.status
refuses_high m a o (bad_owner f n b) = omega arith
refuses_high m a o (unstated f n k g) = omega (arith, state_high f)

pub unaccepted_high : (m : Model) (a : Annot) (ct : List ℕ) (o : Outcome) → Unaccepted m a ct o → 15 < o.status
unaccepted_high m a ct o (no_rows p h) = refuses_high m a p h
unaccepted_high m a ct o (bad_text s f n l i h) = omega arith
unaccepted_high m a ct o (rejected s c node w i t h) = omega arith
unaccepted_high m a ct o (wide_sum s c node i t h) = omega arith

-- ---- what `solve` found
pub record FoundAt (m : Model) (a : Annot) (r : Asked) (o : Outcome) : Type 0 where
  pub stated : Stated
  pub is : IsStated m a stated
  pub found : Found
  pub gives : CertGives stated.system r.work (Ok found)
  pub report : ℕ × List ℕ
  pub reports : ReportOf m a stated found found.cert.verdict report
  pub status : o.status ≡ report.0
  pub says : o.says ≡ report.1

found_at : (m : Model) (a : Annot) (r : Asked) (o : Outcome) → Solves m a r o → o.status < 3 → FoundAt m a r o
found_at m a r o (refused p h) l = absurd (omega (arith, l, refuses_high m a p h))
found_at m a r o (unfinished s f n i g) l = absurd (omega (arith, l, walk_high f))
found_at m a r o (unfilled s f w i g u) l = absurd (omega arith)
found_at m a r o (too_long s f t i g k q) l = absurd (omega arith)
found_at m a r o (answered s f t i g k q) l = record { stated = s; is = i; found = f; gives = g; report = t; reports = k; status = refl; says = refl }

pub not_verbs : (v w u : Verb) → v ≡ w → v ≡ u → w ≡ u
not_verbs v w u e f = sym e ∙ f

pub print_not : Print ≡ Solve → ⊥
print_not e = cc

pub check_not : Check ≡ Solve → ⊥
check_not e = cc

pub migrate_not : Migrate ≡ Solve → ⊥
migrate_not e = cc

pub solve_found : (m : Model) (a : Annot) (r : Asked) (rest : List (List ℕ)) (o : Outcome) → Does m a r rest o → r.verb ≡ Solve → o.status < 3 → FoundAt m a r o
solve_found m a r rest o (prints t v c) w l = absurd (print_not (not_verbs r.verb Print Solve v w))
solve_found m a r rest o (solves p v h) w l = found_at m a r p h l
solve_found m a r rest o (checks ct p v h) w l = absurd (check_not (not_verbs r.verb Check Solve v w))
solve_found m a r rest o (migrates ct name p v n h) w l = absurd (migrate_not (not_verbs r.verb Migrate Solve v w))

checks_low : (m : Model) (a : Annot) (ct : List ℕ) (o : Outcome) → Checks m a ct o → 0 < o.status → o.status < 3 → ⊥
checks_low m a ct o (unaccepted p h) k l = omega (arith, l, unaccepted_high m a ct p h)
checks_low m a ct o (accepted s c h) k l = omega arith

migrates_low : (m : Model) (a : Annot) (ct name : List ℕ) (o : Outcome) → Migrates m a ct name o → 0 < o.status → o.status < 3 → ⊥
migrates_low m a ct name o (unmigrated p h) k l = omega (arith, l, unaccepted_high m a ct p h)
migrates_low m a ct name o (migrated_long s c d h u q) k l = omega arith
migrates_low m a ct name o (migrated s c d h u q) k l = omega arith

-- 1 and 2 are answers of `solve` alone
pub other_found : (m : Model) (a : Annot) (r : Asked) (rest : List (List ℕ)) (o : Outcome) → Does m a r rest o → 0 < o.status → o.status < 3 → FoundAt m a r o
other_found m a r rest o (prints t v c) k l = absurd (omega arith)
other_found m a r rest o (solves p v h) k l = found_at m a r p h l
other_found m a r rest o (checks ct p v h) k l = absurd (checks_low m a ct p h k l)
other_found m a r rest o (migrates ct name p v n h) k l = absurd (migrates_low m a ct name p h k l)

-- ---- what a verdict says of the file
module _ (m : Model) (a : Annot) (s : Stated) (i : IsStated m a s) (f : Found) (work : ℕ) (g : CertGives s.system work (Ok f)) where
  shown : (v : Verdict) → f.cert.verdict ≡ v → VerdictShown s.system v
  shown v e = subst (VerdictShown s.system) e g.shown

  fits : (v : Verdict) → f.cert.verdict ≡ v → VerdictFits f.cert.base f.cert.quantities f.cert.pairs v
  fits v e = subst (VerdictFits f.cert.base f.cert.quantities f.cert.pairs) e f.cert.fits

  pub record PointAt (t : ℕ × List ℕ) : Type 0 where
    values : List Frac
    says : t.1 ≡ point_report a.bilevel f.work (variable_names m) values
    point : Point
    stands : StandsFor values point
    solution : IsSolution a.bilevel m a point

  turned : (b : Bool) (values : List Frac) (t : ℕ × List ℕ) (p : Point) → a.bilevel ≡ b → StandsFor values p → t.1 ≡ point_report b f.work (variable_names m) values → IsSolution b m a p → PointAt t
  turned b values t p e at says is = record {
    values = values;
    says = says ∙ ap (λ c. point_report c f.work (variable_names m) values) (sym e);
    point = p;
    stands = at;
    solution = subst (λ c. IsSolution c m a p) (sym e) is;
  }

  pub point_at : (v : Verdict) (t : ℕ × List ℕ) → f.cert.verdict ≡ v → ReportOf m a s f v t → t.0 ≡ 0 → PointAt t
  point_at (PointVerdict fs) t e h z =
      let sh = shown (PointVerdict fs) e in
      let q = stands_for_common fs in
      let p = stands_for_common h.values in
      let file = filled_is_file m a s fs h.values (common_point fs) (common_point h.values) i (fits (PointVerdict fs) e ∙ g.names.base) h.fills q p in
      turned false h.values t (common_point h.values) (is_equilibrium m a s.system (stated_has_rows m a s i) sh.0) p (ap (λ r. r.1) h.is) (stated_tells m a s (PointVerdict fs) i sh (common_point fs) (common_point h.values) q file)
  point_at (Missing tree) t e h z = absurd (let k = ap (λ (r : ℕ × List ℕ). r.0) h in omega (arith, k, z))
  point_at (Best fs tree) t e h z =
      let sh = shown (Best fs tree) e in
      let q = stands_for_common fs in
      let p = stands_for_common h.values in
      let file = filled_is_file m a s fs h.values (common_point fs) (common_point h.values) i ((fits (Best fs tree) e).0 ∙ g.names.base) h.fills q p in
      turned true h.values t (common_point h.values) (is_bilevel m a s.system (stated_has_rows m a s i) sh.0 sh.1) p (ap (λ r. r.1) h.is) (stated_tells m a s (Best fs tree) i sh (common_point fs) (common_point h.values) q file)
  point_at (Unbounded fs gs) t e h z = absurd (let k = ap (λ (r : ℕ × List ℕ). r.0) h.is in omega (arith, k, z))

  pub none_at : (v : Verdict) (t : ℕ × List ℕ) → f.cert.verdict ≡ v → ReportOf m a s f v t → t.0 ≡ 1 → (p : Point) → SolvesFile m a p → ⊥
  none_at (PointVerdict fs) t e h z = absurd (let k = ap (λ (r : ℕ × List ℕ). r.0) h.is in omega (arith, k, z))
  none_at (Missing tree) t e h z = stated_tells m a s (Missing tree) i (shown (Missing tree) e)
  none_at (Best fs tree) t e h z = absurd (let k = ap (λ (r : ℕ × List ℕ). r.0) h.is in omega (arith, k, z))
  none_at (Unbounded fs gs) t e h z = absurd (let k = ap (λ (r : ℕ × List ℕ). r.0) h.is in omega (arith, k, z))

  pub record RayAt (t : ℕ × List ℕ) : Type 0 where
    values : List Frac
    steps : List Frac
    says : t.1 ≡ unbounded_report f.work (variable_names m) values steps
    point : Point
    step : Point
    stands : StandsFor values point
    steps_stand : StandsFor steps step
    bilevel : a.bilevel ≡ true
    still : (x : ℕ) (f : Frac) → x < length steps → is_defined m a x ≡ true → (get_or steps x f).num ≡ pos 0
    ray : IsRay m a point step

  pub ray_at : (v : Verdict) (t : ℕ × List ℕ) → f.cert.verdict ≡ v → ReportOf m a s f v t → t.0 ≡ 2 → RayAt t
  ray_at (PointVerdict fs) t e h z = absurd (let k = ap (λ (r : ℕ × List ℕ). r.0) h.is in omega (arith, k, z))
  ray_at (Missing tree) t e h z = absurd (let k = ap (λ (r : ℕ × List ℕ). r.0) h in omega (arith, k, z))
  ray_at (Best fs tree) t e h z = absurd (let k = ap (λ (r : ℕ × List ℕ). r.0) h.is in omega (arith, k, z))
  ray_at (Unbounded fs gs) t e h z =
      let sh = shown (Unbounded fs gs) e in
      let q = stands_for_common fs in
      let d = stands_for_common gs in
      let p = stands_for_common h.values in
      let v = stands_for_common (spread m a gs) in
      let fit = fits (Unbounded fs gs) e in
      let file = filled_is_file m a s fs h.values (common_point fs) (common_point h.values) i (fit.0 ∙ g.names.base) h.fills q p in
      let step = spread_is_step m a s gs (common_point gs) (common_point (spread m a gs)) i (fit.1 ∙ g.names.base) d v in
      record {
        values = h.values;
        steps = spread m a gs;
        says = ap (λ r. r.1) h.is;
        point = common_point h.values;
        step = common_point (spread m a gs);
        stands = p;
        steps_stand = v;
        bilevel = is_bilevel m a s.system (stated_has_rows m a s i) sh.0 sh.1;
        still = λ x f l d. spread_still m a gs x f l d;
        ray = stated_tells m a s (Unbounded fs gs) i sh (common_point fs) (common_point gs) (common_point h.values) (common_point (spread m a gs)) q d file step.0 step.1;
      }

-- ---- the clauses
module _ (words : List (List ℕ)) (x y : Contents) (end : ℕ) (n : IsAnswered words x y end) where
  pub says_point : n.request.verb ≡ Solve → end ≡ 0 → SaysPoint words x y
  says_point v z =
      let d = done_now words x y end n (not_by_verb n.request n.outcome Solve solve_not_make v) (inl (omega (arith, z))) in
      let h = solve_found d.model d.annot n.request d.rest n.outcome d.does v (omega (arith, z, n.is)) in
      let p = point_at d.model d.annot h.stated h.is h.found n.request.work h.gives h.found.cert.verdict h.report refl h.reports (sym h.status ∙ (n.is ∙ z)) in
      record {
        model = d.model;
        annot = d.annot;
        texts = d.texts;
        work = h.found.work;
        values = p.values;
        said = grows words x y end n (point_report d.annot.bilevel h.found.work (variable_names d.model) p.values) (h.says ∙ p.says);
        point = p.point;
        stands = p.stands;
        solution = p.solution;
      }

  pub shows_none : end ≡ 1 → ShowsNone words x y
  shows_none z =
      let d = done_now words x y end n (not_by_status words x y end n (omega (arith, z), omega (arith, z))) (inl (omega (arith, z))) in
      let h = other_found d.model d.annot n.request d.rest n.outcome d.does (omega (arith, z, n.is)) (omega (arith, z, n.is)) in
      record { model = d.model; annot = d.annot; texts = d.texts; none = none_at d.model d.annot h.stated h.is h.found n.request.work h.gives h.found.cert.verdict h.report refl h.reports (sym h.status ∙ (n.is ∙ z)) }

  pub says_ray : end ≡ 2 → SaysRay words x y
  says_ray z =
      let d = done_now words x y end n (not_by_status words x y end n (omega (arith, z), omega (arith, z))) (inl (omega (arith, z))) in
      let h = other_found d.model d.annot n.request d.rest n.outcome d.does (omega (arith, z, n.is)) (omega (arith, z, n.is)) in
      let p = ray_at d.model d.annot h.stated h.is h.found n.request.work h.gives h.found.cert.verdict h.report refl h.reports (sym h.status ∙ (n.is ∙ z)) in
      record {
        model = d.model;
        annot = d.annot;
        texts = d.texts;
        bilevel = p.bilevel;
        work = h.found.work;
        values = p.values;
        steps = p.steps;
        said = grows words x y end n (unbounded_report h.found.work (variable_names d.model) p.values p.steps) (h.says ∙ p.says);
        point = p.point;
        step = p.step;
        stands = p.stands;
        steps_stand = p.steps_stand;
        still = p.still;
        ray = p.ray;
      }
