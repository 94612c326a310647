-- Before the root is opened the whole search is still to come.
use Rattle.std.proofs.Common.{◌≡◌, ℕ, ◌-◌, List, [], length, None, Result, Ok, Err, arith, refl, sym, ap, subst, ◌∙◌}
use Rattle.std.specs.Option.{option_map}
use Rattle.emp_rows.specs.declared.system.RowSystem.{RowSystem}
use Rattle.std.proofs.lemmas.List.Elements.{All-nil}
use Rattle.emp_cert.specs.Certs.{NodeFits, VerdictFits}
use Rattle.emp_cert.specs.Nodes.{AreTrees}
use Rattle.emp_cert.proofs.Forests.{whole_tree}
use Rattle.emp_dict.specs.Dictionary.{mark_at}
use Rattle.emp_dict.specs.Dicts.{dictionary_of}
use Rattle.emp_face.specs.Budgets.{units_left}
use Rattle.emp_decide.specs.Laws.{started_of}
use Rattle.emp_search.specs.Search.{State, closed, first_state, search_from}
use Rattle.emp_search.specs.Shown.{SearchShows}
use Rattle.emp_search.specs.Nodes.{IsNode}
use Rattle.emp_search.proofs.Rooted.{start_node, unasked_at, searches_from_show}
use Rattle.emp_walk.specs.declared.asks.Asks.{Asks}
use Rattle.emp_walk.specs.declared.asks.Asks.TheVariants.{Root}
use Rattle.emp_walk.specs.declared.course.Open.{Open}
use Rattle.emp_walk.specs.declared.course.End.{End}
use Rattle.emp_walk.specs.declared.course.End.TheVariants.{Closed, Point, Ray}
use Rattle.emp_walk.specs.declared.course.Course.{Course}
use Rattle.emp_walk.specs.Fits.{IsAt, AsksFit, asks_of}
use Rattle.emp_walk.specs.Decisions.{BestFits}
use Rattle.emp_walk.specs.declared.fault.WalkFault.{WalkFault}
use Rattle.emp_walk.specs.declared.search.Answer.{Answer}
use Rattle.emp_cert.specs.declared.cert.Verdict.{Verdict}
use Rattle.emp_walk.specs.Searches.{AnswerGives, VerdictGives, SearchFromGives, SearchGives}
use Rattle.emp_walk.specs.Courses.{FaultGives, WrittenFit, run_of, resumed, state_of, pending, ending_of, IsStartFrom, StackFits, CourseFits}
use Rattle.emp_walk.proofs.Certified.{verdict_fits}
use Rattle.emp_walk.specs.Runs.{EndWhole, Ended}

run_is : (s : RowSystem) (limit left nodes : ℕ) → run_of s limit (asks_of s Root) (started_of s) (first_state left nodes) ≡ search_from s limit left nodes
unfolding run_of
run_is s limit left nodes = refl

state_first : (c : Course) (limit used nodes : ℕ) (s : RowSystem) → IsStartFrom s limit used nodes c → state_of c ≡ first_state (limit - used) nodes
state_first c limit used nodes s h =
    let left : units_left c.budget ≡ limit - used = let u = h.used in let l = h.limit in omega arith in
    ap (λ w. record { written = w; best = option_map dictionary_of c.best; left = units_left c.budget; nodes = c.nodes }) h.written
    ∙ (ap (λ b. record { written = []; best = option_map dictionary_of b; left = units_left c.budget; nodes = c.nodes }) h.best
    ∙ (ap (λ n. record { written = []; best = None; left = n; nodes = c.nodes }) left
    ∙ ap (λ n. record { written = []; best = None; left = limit - used; nodes = n }) h.nodes))

pub start_pending : (s : RowSystem) (limit used nodes : ℕ) (c : Course) → IsStartFrom s limit used nodes c → pending s c ≡ search_from s limit (limit - used) nodes
start_pending s limit used nodes c h =
    ap (λ (bs : List Open). resumed (run_of s c.budget.limit) bs (run_of s c.budget.limit (asks_of s c.asks) (dictionary_of c.dict) (state_of c))) h.stack
    ∙ (ap (λ l. run_of s l (asks_of s c.asks) (dictionary_of c.dict) (state_of c)) h.limit
    ∙ (ap (λ (a : Asks). run_of s limit (asks_of s a) (dictionary_of c.dict) (state_of c)) h.asks
    ∙ (ap (λ d. run_of s limit (asks_of s Root) d (state_of c)) h.dictionary
    ∙ (ap (run_of s limit (asks_of s Root) (started_of s)) (state_first c limit used nodes s h) ∙ run_is s limit (limit - used) nodes))))

-- the dictionary at the start is that of a node, and the root may be asked what it asks
pub root_at : (s : RowSystem) → IsAt s (started_of s)
root_at s = let n : IsNode s [] (started_of s) = start_node s in record { dictionary = n.dictionary; level = n.level }

pub root_unasked : (s : RowSystem) → AsksFit (started_of s) Root
root_unasked s q = unasked_at (length s.quantities) (q - 1)

pub start_fits : (s : RowSystem) (limit used nodes : ℕ) (c : Course) → IsStartFrom s limit used nodes c → CourseFits s c
start_fits s limit used nodes c h = record {
  at = subst (IsAt s) (sym h.dictionary) (root_at s);
  asks = subst (AsksFit (dictionary_of c.dict)) (sym h.asks) (λ q. ap (λ d. mark_at d q) h.dictionary ∙ root_unasked s q);
  place = record { stack = subst (StackFits s) (sym h.stack) tt; best = subst BestFits (sym h.best) tt; written = subst (WrittenFit s) (sym h.written) (All-nil (NodeFits (length s.pairs) (length s.quantities))); nodes = let z = h.nodes in let f = h.fits in let u = h.used in omega arith };
}

-- where no node is left, what is written is one whole tree
closed_whole : (s : RowSystem) (limit left nodes : ℕ) (st : State) → search_from s limit left nodes ≡ closed st → AreTrees 1 st.written
closed_whole s limit left nodes st e =
    let h : SearchShows s (closed st) = subst (SearchShows s) e (searches_from_show s limit left nodes) in
    subst (AreTrees 1) (sym h.written) (whole_tree h.tree)

pub end_whole : (s : RowSystem) (limit left nodes : ℕ) (c : Course) (e : End) → search_from s limit left nodes ≡ ending_of c e → EndWhole c e
end_whole s limit left nodes c Closed h = closed_whole s limit left nodes (state_of c) h
end_whole s limit left nodes c Point h = tt
end_whole s limit left nodes c (Ray j up) h = tt

-- ---- the whole search
pub fault_whole : (s : RowSystem) (limit used nodes : ℕ) (c : Course) (f : WalkFault) → IsStartFrom s limit used nodes c → FaultGives (pending s c) c.budget.limit f → FaultGives (search_from s limit (limit - used) nodes) limit f
fault_whole s limit used nodes c f h g = subst (λ n. FaultGives (search_from s limit (limit - used) nodes) n f) h.limit (subst (λ r. FaultGives r c.budget.limit f) (start_pending s limit used nodes c h) g)

pub answer_whole : (s : RowSystem) (limit used nodes : ℕ) (c new : Course) (e : End) (v : Verdict) (work count : ℕ) → IsStartFrom s limit used nodes c → Ended s c new e → VerdictGives (ending_of new e) (state_of new) v → work ≡ new.budget.used → count ≡ new.nodes → (a : Answer) → a.verdict ≡ v → a.work ≡ work → a.nodes ≡ count → AnswerGives (search_from s limit (limit - used) nodes) limit a
answer_whole s limit used nodes c new e v work count h r g w n a av aw an =
    let same : search_from s limit (limit - used) nodes ≡ ending_of new e = sym (start_pending s limit used nodes c h) ∙ r.same in
    let kept = new.budget.kept in
    let l = r.limit in
    let m = h.limit in
    record {
      state = state_of new;
      verdict = subst (λ x. VerdictGives (search_from s limit (limit - used) nodes) (state_of new) x) (sym av) (subst (λ x. VerdictGives x (state_of new) v) (sym same) g);
      work = omega arith;
      nodes = an ∙ n;
    }

pub verdict_whole : (s : RowSystem) (limit used nodes : ℕ) (c new : Course) (e : End) (v : Verdict) → IsStartFrom s limit used nodes c → Ended s c new e → VerdictGives (ending_of new e) (state_of new) v → VerdictFits s.base (length s.quantities) (length s.pairs) v
verdict_whole s limit used nodes c new e v h r g =
    let same : search_from s limit (limit - used) nodes ≡ ending_of new e = sym (start_pending s limit used nodes c h) ∙ r.same in
    verdict_fits s (search_from s limit (limit - used) nodes) (searches_from_show s limit (limit - used) nodes) (state_of new) v (subst (λ x. VerdictGives x (state_of new) v) (sym same) g) r.written

-- where nothing was taken before, it is the search with so many units
pub from_first : (s : RowSystem) (units limit used : ℕ) (r : Result Answer WalkFault) → limit ≡ units → used ≡ 0 → SearchFromGives s limit (limit - used) 0 r → SearchGives s units r
from_first s units limit used (Ok a) e z h = subst (λ l. AnswerGives (search_from s l l 0) l a) e (subst (λ l. AnswerGives (search_from s limit l 0) limit a) left h)
  where
    left : limit - used ≡ limit
    left = omega arith
from_first s units limit used (Err f) e z h = subst (λ l. FaultGives (search_from s l l 0) l f) e (subst (λ l. FaultGives (search_from s limit l 0) limit f) left h)
  where
    left : limit - used ≡ limit
    left = omega arith
