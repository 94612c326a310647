-- What was said and stored after a refusal.
use Rattle.std.proofs.Common.{◌≡◌, ◌≢◌, ℕ, inl, inr, true, false, List, [], ◌∷◌, ◌++◌, map, Option, Some, refl, sym, ap, ◌∙◌}
use Rattle.std.proofs.lemmas.Bool.{false≢true}
use Rattle.std.proofs.lemmas.List.{append-nil}
use Rattle.emp_desk.specs.Desk.{Place, Contents, KeepsAll, Says, SaysPrefix}
use Rattle.emp_ast.specs.declared.model.Model.{Model}
use Rattle.emp_ast.specs.declared.annot.Annot.{Annot}
use Rattle.emp_command.specs.Words.{Asked}
use Rattle.emp_command.specs.Course.{Outcome, refusal, IsDue, bad_words, bad_work, bad_firms, unread, too_long, answered, no_memory, IsCutSay, Delivers, whole, unsaid, unstored, unstored_unsaid, no_room, no_room_unsaid, StoresAll, Runs, delivered, cut_short}
use Rattle.emp_ast.specs.declared.tree.Place.{Place as TextPlace}
use Rattle.emp_lex.specs.declared.token.Token.{Token}
use Rattle.emp_lex.specs.declared.fault.LexFault.{LexFault}
use Rattle.emp_lex.specs.declared.fault.LexFault.TheVariants as LexWords
use Rattle.emp_lex.specs.declared.piece.Defect.{Defect}
use Rattle.emp_lex.specs.declared.piece.Defect.TheVariants.{BadByte, LongName, OpenBlock, Dollar}
use Rattle.emp_lex.specs.Tokens.{fault_at, Reads, at_end, skipped, taken, stopped, too_wide, IsFirstFault}
use Rattle.gms_grammar.specs.declared.fault.ModelFault.{ModelFault}
use Rattle.gms_grammar.specs.declared.fault.ModelFault.TheVariants as ModelWords
use Rattle.info_read.specs.declared.fault.InfoFault.{InfoFault}
use Rattle.info_read.specs.declared.fault.InfoFault.TheVariants as InfoWords
use Rattle.emp_owner.specs.declared.owned.OwnFault.{OwnFault}
use Rattle.emp_owner.specs.declared.owned.OwnFault.TheVariants as OwnWords
use Rattle.emp_poly.specs.declared.tree.PolyFault.TheVariants as PolyWords
use Rattle.emp_cert_text.specs.declared.read.CertFault.{CertFault}
use Rattle.emp_cert_text.specs.declared.read.CertFault.TheVariants as CertWords
use Rattle.emp_walk.specs.declared.fault.WalkFault.{WalkFault}
use Rattle.emp_walk.specs.declared.fault.WalkFault.TheVariants as WalkWords
use Rattle.emp_cert.specs.declared.cert.Found.{Found}
use Rattle.emp_cert.specs.declared.cert.Verdict.{Verdict}
use Rattle.emp_cert.specs.declared.cert.Verdict.TheVariants.{Point, Missing, Best, Unbounded}
use Rattle.emp_solution.specs.declared.state.Stated.{Stated}
use Rattle.emp_solution.specs.declared.state.StateFault.{StateFault}
use Rattle.emp_solution.specs.declared.state.StateFault.TheVariants as StateWords
use Rattle.gms_read.specs.Texts.{RefusesModel}
use Rattle.info_read.specs.Texts.{RefusesInfo}
use Rattle.emp_report.specs.TextLines.{model_line, info_line, own_line}
use Rattle.emp_report.specs.CertLines.{cert_line}
use Rattle.emp_outcomes.specs.Outcomes.{state_status, state_line, IsNamedFault, Refuses, bad_owner, unstated, walk_status, walk_line, ReportOf, Solves, refused, unfinished, unfilled, too_long, answered, Unaccepted, no_rows, bad_text, rejected, wide_sum, Checks, unaccepted, accepted, Migrates, unmigrated, migrated_long, migrated}
use Rattle.emp_answers.specs.Answers.{Does, prints, solves, checks, migrates, Answers, unbuilt, bad_model, bad_info, done}
use Rattle.emp_makes.specs.Makes.{SumsUp}
use Rattle.emp_makes.specs.Makes as Made
use Rattle.emp_engine.specs.Run.{IsAnswer, over_texts, market, is_refusal, IsFaultLine, SaysRefusal}

-- ---- the reader of tokens has no fault for want of memory
defect_named : (d : Defect) (p : TextPlace) → Some (fault_at d p) ≡ Some LexWords.NoMemory → ⊥
defect_named BadByte p e = cc
defect_named LongName p e = cc
defect_named OpenBlock p e = cc
defect_named Dollar p e = cc

lexed : (n : ℕ) (p : TextPlace) (bs : List ℕ) (ts : List Token) (end : Option LexFault) → Reads n p bs ts end → end ≡ Some LexWords.NoMemory → ⊥
lexed n p bs ts end (at_end k q) e = cc
lexed n p bs ts end (skipped k q b cs size us f s r) e = lexed _ _ _ us f r e
lexed n p bs ts end (taken k q b cs kind size us f s w r) e = lexed _ _ _ us f r e
lexed n p bs ts end (stopped k q b cs d s) e = defect_named d q e
lexed n p bs ts end (too_wide k q b cs kind size s w) e = cc

first_fault_named : (text : List ℕ) → IsFirstFault text LexWords.NoMemory → ⊥
first_fault_named text h = lexed _ _ text h.0 (Some LexWords.NoMemory) h.1 refl

-- ---- lines
abbrev Begins : ℕ → List ℕ → Type 0
Begins status line = IsFaultLine status line

model_begins : (text : List ℕ) (f : ModelFault) → f ≢ ModelWords.NoMemory → RefusesModel text f → Begins 14 (model_line f)
model_begins text f n (inl e) = absurd (n e)
model_begins text (ModelWords.Lex (LexWords.BadByte p)) n (inr h) = refl
model_begins text (ModelWords.Lex (LexWords.LongName p)) n (inr h) = refl
model_begins text (ModelWords.Lex (LexWords.OpenBlock p)) n (inr h) = refl
model_begins text (ModelWords.Lex (LexWords.Dollar p)) n (inr h) = refl
model_begins text (ModelWords.Lex (LexWords.Number p)) n (inr h) = refl
model_begins text (ModelWords.Lex LexWords.NoMemory) n (inr h) = absurd (first_fault_named text h)
model_begins text (ModelWords.Syntax p) n (inr h) = refl
model_begins text (ModelWords.Undeclared p) n (inr h) = refl
model_begins text (ModelWords.Twice p) n (inr h) = refl
model_begins text (ModelWords.Discrete p) n (inr h) = refl
model_begins text (ModelWords.Attribute p) n (inr h) = refl
model_begins text (ModelWords.Function p) n (inr h) = refl
model_begins text (ModelWords.TooLarge p) n (inr h) = refl
model_begins text (ModelWords.Undefined e name) n (inr h) = refl
model_begins text (ModelWords.BoundsCross v name) n (inr h) = refl
model_begins text ModelWords.NoMemory n (inr h) = absurd h

info_begins : (text : List ℕ) (m : Model) (f : InfoFault) → f ≢ InfoWords.NoMemory → RefusesInfo text m f → Begins 15 (info_line f)
info_begins text m f n (inl e) = absurd (n e)
info_begins text m (InfoWords.Lex (LexWords.BadByte p)) n (inr h) = refl
info_begins text m (InfoWords.Lex (LexWords.LongName p)) n (inr h) = refl
info_begins text m (InfoWords.Lex (LexWords.OpenBlock p)) n (inr h) = refl
info_begins text m (InfoWords.Lex (LexWords.Dollar p)) n (inr h) = refl
info_begins text m (InfoWords.Lex (LexWords.Number p)) n (inr h) = refl
info_begins text m (InfoWords.Lex LexWords.NoMemory) n (inr h) = absurd (first_fault_named text h)
info_begins text m (InfoWords.Syntax p) n (inr h) = refl
info_begins text m (InfoWords.Unknown p) n (inr h) = refl
info_begins text m (InfoWords.WrongKind p) n (inr h) = refl
info_begins text m InfoWords.NoMemory n (inr h) = absurd h

own_begins : (m : Model) (f : OwnFault) → f ≢ OwnWords.NoMemory → Begins 16 (own_line m f)
own_begins m OwnWords.LeaderMissing n = refl
own_begins m (OwnWords.Unowned v) n = refl
own_begins m (OwnWords.OwnedTwice v) n = refl
own_begins m (OwnWords.EquationTwice e) n = refl
own_begins m (OwnWords.EquationLeft e) n = refl
own_begins m (OwnWords.ViRelation e) n = refl
own_begins m (OwnWords.NotConstraint e) n = refl
own_begins m (OwnWords.DualShared e) n = refl
own_begins m (OwnWords.DualTwice e) n = refl
own_begins m (OwnWords.DualBound v) n = refl
own_begins m (OwnWords.ImplicitUse v) n = refl
own_begins m (OwnWords.ImplicitRelation e) n = refl
own_begins m OwnWords.NoMemory n = absurd (n refl)

state_begins : (m : Model) (f : StateFault) → IsNamedFault f → Begins (state_status f) (state_line m f)
state_begins m (StateWords.Poly (PolyWords.Degree p)) n = refl
state_begins m (StateWords.Poly (PolyWords.DivideByVariable p)) n = refl
state_begins m (StateWords.Poly (PolyWords.DivideByZero p)) n = refl
state_begins m (StateWords.Poly (PolyWords.Wide p)) n = refl
state_begins m (StateWords.Poly PolyWords.NoMemory) n = absurd n
state_begins m (StateWords.Quadratic e u v) n = refl
state_begins m (StateWords.LeaderNotLinear u v) n = refl
state_begins m (StateWords.NotConvex b k) n = refl
state_begins m (StateWords.WideCurve b k) n = refl
state_begins m StateWords.TooLarge n = refl
state_begins m (StateWords.WideRow k) n = refl
state_begins m StateWords.NoMemory n = absurd n

walk_begins : (f : WalkFault) → f ≢ WalkWords.NoMemory → Begins (walk_status f) (walk_line f)
walk_begins (WalkWords.Wide node pivot) n = refl
walk_begins (WalkWords.Spent limit) n = refl
walk_begins WalkWords.NoMemory n = absurd (n refl)

cert_begins : (f : CertFault) → f ≢ CertWords.NoMemory → f ≢ CertWords.TooLong → Begins 22 (cert_line f)
cert_begins CertWords.Version n l = refl
cert_begins (CertWords.Syntax k) n l = refl
cert_begins (CertWords.Range k) n l = refl
cert_begins CertWords.TooLong n l = absurd (l refl)
cert_begins CertWords.NoMemory n l = absurd (n refl)

-- ---- what is due with the status of a refusal stores nothing and says its line
pub record IsLine (o : Outcome) : Type 0 where
  pub alone : o.stores ≡ []
  pub begins : Begins o.status o.says

abbrev Refused : Outcome → Type 0
Refused o = is_refusal o.status ≡ true → IsLine o

line_of : (status : ℕ) (line : List ℕ) → Begins status line → Refused (refusal status line)
line_of status line b h = record { alone = refl; begins = b }

-- a status that is no refusal's
not_refused : (s : ℕ) (o : Outcome) → o.status ≡ s → is_refusal s ≡ false → Refused o
not_refused s o e n h = absurd (false≢true (sym n ∙ (ap is_refusal (sym e) ∙ h)))

module _ (m : Model) (a : Annot) where
  refuses_line : (o : Outcome) → Refuses m a o → Refused o
  refuses_line o (bad_owner f n b) = line_of 16 _ (own_begins m f n)
  refuses_line o (unstated f n k g) = line_of (state_status f) _ (state_begins m f n)

  report_line : (s : Stated) (f : Found) (v : Verdict) (t : ℕ × List ℕ) (o : Outcome) → ReportOf m a s f v t → o.status ≡ t.0 → Refused o
  report_line s f (Point fs) t o h e = not_refused 0 o (e ∙ ap (λ r. r.0) h.is) refl
  report_line s f (Missing tree) t o h e = not_refused 1 o (e ∙ ap (λ r. r.0) h) refl
  report_line s f (Best fs tree) t o h e = not_refused 0 o (e ∙ ap (λ r. r.0) h.is) refl
  report_line s f (Unbounded fs gs) t o h e = not_refused 2 o (e ∙ ap (λ r. r.0) h.is) refl

  solves_line : (r : Asked) (o : Outcome) → Solves m a r o → Refused o
  solves_line r o (refused p h) = refuses_line p h
  solves_line r o (unfinished s f n i g) = line_of (walk_status f) _ (walk_begins f n)
  solves_line r o (unfilled s f w i g u) = line_of 19 _ refl
  solves_line r o (too_long s f t i g k l) = line_of 24 _ refl
  solves_line r o (answered s f t i g k l) = report_line s f f.cert.verdict t o k refl

  unaccepted_line : (ct : List ℕ) (o : Outcome) → Unaccepted m a ct o → Refused o
  unaccepted_line ct o (no_rows p h) = refuses_line p h
  unaccepted_line ct o (bad_text s f n l i h) = line_of 22 _ (cert_begins f n l)
  unaccepted_line ct o (rejected s c node w i t h) = line_of 23 _ refl
  unaccepted_line ct o (wide_sum s c node i t h) = line_of 19 _ refl

  checks_line : (ct : List ℕ) (o : Outcome) → Checks m a ct o → Refused o
  checks_line ct o (unaccepted p h) = unaccepted_line ct p h
  checks_line ct o (accepted s c h) = not_refused 0 o refl refl

  migrates_line : (ct name : List ℕ) (o : Outcome) → Migrates m a ct name o → Refused o
  migrates_line ct name o (unmigrated p h) = unaccepted_line ct p h
  migrates_line ct name o (migrated_long s c d h u l) = line_of 24 _ refl
  migrates_line ct name o (migrated s c d h u l) = not_refused 0 o refl refl

  does_line : (r : Asked) (rest : List (List ℕ)) (o : Outcome) → Does m a r rest o → Refused o
  does_line r rest o (prints t v c) = not_refused 0 o refl refl
  does_line r rest o (solves p v h) = solves_line r p h
  does_line r rest o (checks ct p v h) = checks_line ct p h
  does_line r rest o (migrates ct name p v n h) = migrates_line ct name p h

answers_line : (r : Asked) (ts : List (List ℕ)) (o : Outcome) → Answers r ts o → Refused o
answers_line r ts o (unbuilt us h) = line_of 30 _ refl
answers_line r ts o (bad_model mt it rest f b n h) = line_of 14 _ (model_begins mt f n h)
answers_line r ts o (bad_info mt it rest m f b t n h) = line_of 15 _ (info_begins it m f n h)
answers_line r ts o (done mt it rest m a p b t i h) = does_line m a r rest p h

sums_line : (m : Model) (a : Annot) (r : Asked) (o : Outcome) → SumsUp m a r o → Refused o
sums_line m a r o (Made.refused p h) = refuses_line m a p h
sums_line m a r o (Made.unfinished s f n i g) = line_of (walk_status f) _ (walk_begins f n)
sums_line m a r o (Made.unfilled s f w i g u) = line_of 19 _ refl
sums_line m a r o (Made.wide_output vs w h q) = line_of 19 _ refl
sums_line m a r o (Made.wide_profit vs output w h q k) = line_of 19 _ refl
sums_line m a r o (Made.made vs output profit ss h q k st) = not_refused 0 o refl refl

answer_line : (r : Asked) (ts : List (List ℕ)) (o : Outcome) → IsAnswer r ts o → Refused o
answer_line r ts o (over_texts us p h) = answers_line r us p h
answer_line r ts o (market p v h) = sums_line h.model h.annot r p h.sums

-- ---- the course
module _ (words : List (List ℕ)) (f0 f1 : Place → ℕ) (x y : Contents) where
  due_line : (o : Outcome) → IsDue IsAnswer words f0 f1 x o → Refused o
  due_line o (bad_words h) = line_of 10 _ refl
  due_line o (bad_work r a h) = line_of 24 _ refl
  due_line o (bad_firms r a v h) = line_of 24 _ refl
  due_line o (unread r k n a i c h) = line_of 11 _ refl
  due_line o (too_long r k n a i c h) = line_of 13 _ refl
  due_line o (answered r p a i fit ans) = answer_line r (map x.holds r.files) p ans
  due_line o (no_memory r a i) = not_refused 21 o refl refl

  alone_keeps : (ss : List (List ℕ × List ℕ)) (b : Contents) → ss ≡ [] → StoresAll ss x b → KeepsAll x b
  alone_keeps [] b e st = st
  alone_keeps (s ∷ ss) b e st = absurd (let n : s ∷ ss ≡ [] → ⊥ = λ g. cc in n e)

  says_then : (b : Contents) (line : List ℕ) → KeepsAll x b → Says line b y → Says line x y
  says_then b line k s = record { said = s.said ∙ ap (λ t. t ++ line) k.said; files = λ name. s.files name ∙ k.files name }

  prefix_of : (line : List ℕ) → Says line x y → SaysPrefix line x y
  prefix_of line s = record { part = line; prefix = ([], append-nil line); said = s.said; files = s.files }

  whole_line : (o : Outcome) (b : Contents) → IsLine o → StoresAll o.stores x b → Says o.says b y → SaysRefusal o.status words x y
  whole_line o b l st sa =
      let s = says_then b o.says (alone_keeps o.stores b l.alone st) sa in
      record { line = o.says; fault = l.begins; said = prefix_of o.says s; whole = λ n. s }

  cut_kept : (s : ℕ) → IsCutSay f0 f1 s → is_refusal s ≡ true → ⊥
  cut_kept s (inl e) ok = false≢true (ap is_refusal (sym e.0) ∙ ok)
  cut_kept s (inr e) ok = false≢true (ap is_refusal (sym e) ∙ ok)

  delivery_line : (o : Outcome) (s : ℕ) → Refused o → Delivers o f0 f1 x y s → is_refusal s ≡ true → SaysRefusal s words x y
  delivery_line o s d (whole b st sa) ok = whole_line o b (d ok) st sa
  delivery_line o s d (unsaid t b c st sa) ok = absurd (cut_kept t c ok)
  delivery_line o s d (unstored b r st sa) ok = absurd (false≢true ok)
  delivery_line o s d (unstored_unsaid t b c r st sa) ok = absurd (cut_kept t c ok)
  delivery_line o s d (no_room b st sa) ok = absurd (false≢true ok)
  delivery_line o s d (no_room_unsaid t b c st sa) ok = absurd (cut_kept t c ok)

  pub says_refusal : (end : ℕ) → is_refusal end ≡ true → Runs IsAnswer words f0 f1 x y end → SaysRefusal end words x y
  says_refusal end ok (delivered o s due del) = delivery_line o s (due_line o due) del ok
  says_refusal end ok (cut_short o need kind due sa) = record { line = o.says; fault = (due_line o due ok).begins; said = sa; whole = λ n. absurd (n need) }
