-- What is so after a step.
use Rattle.std.proofs.Common.{◌≡◌, ◌≢◌, ℕ, ◌+◌, ◌-◌, ◌<◌, ◌≤◌, List, [], ◌∷◌, length, get_or, drop, Result, Ok, Err, IfOk, arith, refl, sym, ap, subst, ◌∙◌}
use Rattle.std.proofs.lemmas.List.{get_or-set_other, drop_more, drop_all}
use Rattle.emp_rows.specs.declared.system.Kind.{Kind}
use Rattle.emp_rows.specs.declared.system.Kind.TheVariants.{Zero, Nonneg}
use Rattle.emp_rows.specs.declared.system.RowSystem.{RowSystem}
use Rattle.emp_dict.specs.declared.label.Mark.{Mark}
use Rattle.emp_dict.specs.declared.label.Mark.TheVariants.{Unasked, Required, Fixed}
use Rattle.emp_dict.specs.declared.label.Aim.TheVariants.{Least}
use Rattle.emp_dict.specs.Dictionary.{Dictionary, column_label, mark_at}
use Rattle.emp_step.specs.declared.outcome.Outcome.{Outcome}
use Rattle.emp_step.specs.declared.outcome.Outcome.TheVariants.{Held, Empty, Best, Ray}
use Rattle.emp_step.specs.declared.outcome.StepFault.{StepFault}
use Rattle.emp_step.specs.declared.outcome.StepFault.TheVariants.{Wide, Spent}
use Rattle.emp_step.specs.Steps.{StepGives, End, ended, too_wide, spent, Stepped, stepped, mark_by, raised, fixed, bested}
use Rattle.emp_step.specs.Laws.{IsNumber, HasObjective, LeavesLevel, Keeps}
use Rattle.emp_step.proofs.Marks.{fixed_index}
use Rattle.emp_step.proofs.Whole.{raise_level, fix_level, best_level, steps_mark, raise_keeps_all, fix_keeps_all, best_keeps_all}
use Rattle.emp_turns.specs.Choice.{MayMove}
use Rattle.emp_search.specs.Search.{ask_of, asks_from, and_then, asked}
use Rattle.emp_search.proofs.Outcomes.{HoldsOr, LeastOr, EndSays, rays, raise_says, fix_says, best_says}
use Rattle.emp_search.proofs.Working.{marks_length}
use Rattle.emp_walk.specs.Fits.{IsAt, AskFits, OutcomeFits, DoneFits, AskedFits}

-- the quantities after number k have their marks
later_mark : (e : End) (k : ℕ) (m : Mark) (d : Dictionary) → 0 < k → (q : ℕ) → k < q → mark_at (mark_by e k m d) q ≡ mark_at d q
later_mark (ended Held) k m d a q b = get_or-set_other d.marks (k - 1) (q - 1) m Unasked (λ z. absurd (omega arith))
later_mark (ended (Empty r)) k m d a q b = refl
later_mark (ended (Best r)) k m d a q b = refl
later_mark (ended (Ray j up)) k m d a q b = refl
later_mark too_wide k m d a q b = refl
later_mark spent k m d a q b = refl

-- the dictionary after a step is one of the system's
at_after : (s : RowSystem) (d : Dictionary) (w : Stepped) → IsAt s d → LeavesLevel w → Keeps d w → length w.dictionary.marks ≡ length d.marks → IsAt s w.dictionary
at_after s d w a l k m = let t = a.dictionary in record {
  dictionary = record {
    sound = l.0;
    rows = k.rows ∙ t.rows;
    columns = k.columns ∙ t.columns;
    marks = m ∙ t.marks;
    solutions = λ c f. (λ h. (k.solutions c f).0 ((t.solutions c f).0 h), λ h. (t.solutions c f).1 ((k.solutions c f).1 h));
  };
  level = l.1;
}

held_fits : (down : Type 0) (d : Dictionary) (k : ℕ) (o : Outcome) → HoldsOr down d k o → OutcomeFits d o
held_fits down d k Held h = tt
held_fits down d k (Empty r) h = h.row.below
held_fits down d k (Best r) h = absurd h
held_fits down d k (Ray j up) h = absurd h

least_fits : (d : Dictionary) (o : Outcome) → HasObjective d → LeastOr d o → OutcomeFits d o
least_fits d Held t h = absurd h
least_fits d (Empty r) t h = absurd h
least_fits d (Best r) t h = (h.0, t)
least_fits d (Ray j up) t h = let r = rays d Least j up h in (r.opens.below, λ z. subst (λ m. MayMove m r.way) (fixed_index d (column_label d j) z) r.opens.moves)

-- what the whole step says, of how it was given
given : (P : Stepped → Type 0) (w : Stepped) (o : Outcome) (e : Dictionary) (n : ℕ) → w ≡ stepped (ended o) e n → P w → P (stepped (ended o) e n)
given P w o e n q h = subst P q h

says_fits : (down : Type 0) (w : Stepped) (k : ℕ) (o : Outcome) (e : Dictionary) (n : ℕ) → w ≡ stepped (ended o) e n → EndSays (HoldsOr down w.dictionary k) w.end → OutcomeFits e o
says_fits down w k o e n q h = held_fits down e k o (given (λ x. EndSays (HoldsOr down x.dictionary k) x.end) w o e n q h)

asked_fits : (down : Type 0) (s : RowSystem) (d : Dictionary) (w : Stepped) (k : ℕ) (m : Mark) (o : Outcome) (e : Dictionary) (n : ℕ) → 0 < k → IsAt s d → w ≡ stepped (ended o) e n → LeavesLevel w → Keeps d w → w.dictionary.marks ≡ (mark_by w.end k m d).marks → EndSays (HoldsOr down w.dictionary k) w.end → AskedFits s d e k o
asked_fits down s d w k m o e n b a q l x marks says = record {
  done = record { at = given (λ y. IsAt s y.dictionary) w o e n q (at_after s d w a l x (ap length marks ∙ marks_length w.end k m d)); outcome = says_fits down w k o e n q says };
  later = λ p c. sym (ap (λ y. mark_at y.dictionary p) q) ∙ (ap (λ ms. get_or ms (p - 1) Unasked) marks ∙ later_mark w.end k m d b p c);
}

pub fix_fits : (s : RowSystem) (d e : Dictionary) (k n left : ℕ) (o : Outcome) → IsAt s d → AskFits d k Zero → fixed n k d ≡ stepped (ended o) e left → AskedFits s d e k o
fix_fits s d e k n left o a f q = let t = a.dictionary.sound in asked_fits (Unit {0}) s d (fixed n k d) k Fixed o e left f.0.0 a q (fix_level n k d t a.level f.0 f.1) (fix_keeps_all n k d t a.level) (steps_mark.fix n k d) (fix_says n k d)

pub raise_fits : (s : RowSystem) (d e : Dictionary) (k n left : ℕ) (o : Outcome) → IsAt s d → AskFits d k Nonneg → raised n k d ≡ stepped (ended o) e left → AskedFits s d e k o
raise_fits s d e k n left o a f q = let t = a.dictionary.sound in asked_fits ⊥ s d (raised n k d) k Required o e left f.0.0 a q (raise_level n k d t a.level f.0 f.1) (raise_keeps_all n k d t a.level) (steps_mark.raise n k d) (raise_says n k d)

pub best_fits : (s : RowSystem) (d e : Dictionary) (n left : ℕ) (o : Outcome) → IsAt s d → HasObjective d → bested n d ≡ stepped (ended o) e left → DoneFits s e o
best_fits s d e n left o a h q =
    let t = a.dictionary.sound in
    let w = bested n d in
    let l = best_level n d t a.level h in
    let k = best_keeps_all n d t a.level h in
    let m : length (bested n d).dictionary.marks ≡ length d.marks = ap length (steps_mark.best n d) in
    let there : HasObjective (bested n d).dictionary = let r = k.rows in omega arith in
    let f : HasObjective e × EndSays (LeastOr e) (ended o) = given (λ y. HasObjective y.dictionary × EndSays (LeastOr y.dictionary) y.end) (bested n d) o e left q (there, best_says n d) in
    record { at = given (λ y. IsAt s y.dictionary) w o e left q (at_after s d w a l k m); outcome = least_fits e o f.0 f.1 }

-- ---- what a call gave
pub fix_gave : (s : RowSystem) (d e : Dictionary) (k n left : ℕ) (r : Result Outcome StepFault) → IsAt s d → AskFits d k Zero → StepGives (fixed n k d) e left r → IfOk r (AskedFits s d e k)
fix_gave s d e k n left (Ok o) a f h = fix_fits s d e k n left o a f h
fix_gave s d e k n left (Err x) a f h = tt

pub raise_gave : (s : RowSystem) (d e : Dictionary) (k n left : ℕ) (r : Result Outcome StepFault) → IsAt s d → AskFits d k Nonneg → StepGives (raised n k d) e left r → IfOk r (AskedFits s d e k)
raise_gave s d e k n left (Ok o) a f h = raise_fits s d e k n left o a f h
raise_gave s d e k n left (Err x) a f h = tt

pub best_gave : (s : RowSystem) (d e : Dictionary) (n left : ℕ) (r : Result Outcome StepFault) → IsAt s d → HasObjective d → StepGives (bested n d) e left r → IfOk r (DoneFits s e)
best_gave s d e n left (Ok o) a h g = best_fits s d e n left o a h g
best_gave s d e n left (Err x) a h g = tt

pub only_done : (s : RowSystem) (d e : Dictionary) (k : ℕ) (r : Result Outcome StepFault) → IfOk r (AskedFits s d e k) → IfOk r (DoneFits s e)
only_done s d e k (Ok o) h = h.done
only_done s d e k (Err x) h = tt

-- ---- one thing after another
-- a step that does not hold is all
pub then_gives : (rest : ℕ → Dictionary → Stepped) (w : Stepped) (e : Dictionary) (n : ℕ) (o : Outcome) → o ≢ Held → w ≡ stepped (ended o) e n → and_then w rest ≡ stepped (ended o) e n
then_gives rest w e n Held x h = absurd (x refl)
then_gives rest w e n (Empty r) x h = ap (λ y. and_then y rest) h
then_gives rest w e n (Best r) x h = ap (λ y. and_then y rest) h
then_gives rest w e n (Ray j up) x h = ap (λ y. and_then y rest) h

pub then_holds : (rest : ℕ → Dictionary → Stepped) (w : Stepped) (e : Dictionary) (n : ℕ) → w ≡ stepped (ended Held) e n → and_then w rest ≡ rest n e
then_holds rest w e n h = ap (λ y. and_then y rest) h

pub then_fails : (rest : ℕ → Dictionary → Stepped) (w : Stepped) (e : Dictionary) (n : ℕ) (x : StepFault) → StepGives w e n (Err x) → StepGives (and_then w rest) e n (Err x)
then_fails rest w e n Wide h = ap (λ y. and_then y rest) h
then_fails rest w e n Spent h = ap (λ y. and_then y rest) h

-- where nothing more is asked, that is all
pub then_nothing : (w : Stepped) (e : Dictionary) (n : ℕ) (r : Result Outcome StepFault) → StepGives w e n r → StepGives (and_then w (asked [])) e n r
then_nothing w e n (Ok Held) h = ap (λ y. and_then y (asked [])) h
then_nothing w e n (Ok (Empty r)) h = ap (λ y. and_then y (asked [])) h
then_nothing w e n (Ok (Best r)) h = ap (λ y. and_then y (asked [])) h
then_nothing w e n (Ok (Ray j up)) h = ap (λ y. and_then y (asked [])) h
then_nothing w e n (Err x) h = then_fails (asked []) w e n x h

-- the quantities from number k + 1 on
pub asks_more : (ts : List Kind) (k : ℕ) (t : Kind) → k < length ts → get_or ts k t ≡ t → asks_from (k + 1) (drop k ts) ≡ ask_of (k + 1) t ∷ asks_from (k + 1 + 1) (drop (k + 1) ts)
asks_more ts k t b e = ap (asks_from (k + 1)) (drop_more ts k t b ∙ ap (λ x. x ∷ drop (k + 1) ts) e)

pub asks_done : (ts : List Kind) (k : ℕ) → length ts ≤ k → asks_from (k + 1) (drop k ts) ≡ []
asks_done ts k b = ap (asks_from (k + 1)) (drop_all k ts b)

pub unasked_later : (d e : Dictionary) (k : ℕ) → ((q : ℕ) → k < q → mark_at d q ≡ Unasked) → ((q : ℕ) → k + 1 < q → mark_at e q ≡ mark_at d q) → (q : ℕ) → k + 1 < q → mark_at e q ≡ Unasked
unasked_later d e k h same q b = same q b ∙ h q (omega arith)

-- the next quantity may be asked
pub may_ask : (s : RowSystem) (d : Dictionary) (k : ℕ) (t : Kind) → IsAt s d → k < length s.kinds → ((q : ℕ) → k < q → mark_at d q ≡ Unasked) → AskFits d (k + 1) t
may_ask s d k t a b h = go t
  where
    number : IsNumber d (k + 1)
    number = (omega arith, let m = a.dictionary.marks in let o = s.sound.one_kind_each in omega arith)

    go : (t : Kind) → AskFits d (k + 1) t
    go Zero = (number, λ z. let u : Unasked ≡ Fixed = sym (h (k + 1) (omega arith)) ∙ z in absurd (cc))
    go Nonneg = (number, h (k + 1) (omega arith))
