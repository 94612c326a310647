-- The search of a row system ends in one way.
use Rattle.std.proofs.Common.{◌≡◌, ◌≢◌, ℕ, suc, ◌+◌, ◌-◌, ◌<◌, Bool, List, [], ◌∷◌, length, get_or, Option, Some, Result, Ok, Err, arith, refl, sym, ap, subst, ◌∙◌}
use Rattle.std.specs.Coded.{Π_prop}
use denote.Struct.Props.{props}
use Rattle.std.proofs.lemmas.Option.{same_Some, none-some}
use Rattle.emp_num.specs.declared.frac.Frac.{Frac}
use Rattle.emp_num.proofs.FracOrder.{one_value}
use Rattle.emp_rows.specs.declared.system.RowSystem.{RowSystem}
use Rattle.emp_cert.specs.declared.tree.Node.{Node}
use Rattle.emp_cert.specs.declared.tree.Tree.{Tree}
use Rattle.emp_cert.specs.declared.cert.Verdict.{Verdict}
use Rattle.emp_cert.specs.declared.cert.Verdict.TheVariants.{Point, Missing, Best, Unbounded}
use Rattle.emp_cert.specs.declared.cert.Cert.{Cert}
use Rattle.emp_cert.specs.declared.cert.Found.{Found}
use Rattle.emp_cert.specs.Certs.{Counts, LinksFit, VerdictFits, VerdictFits-prop}
use Rattle.emp_cert.specs.Nodes.{AreTrees, AreTrees-prop}
use Rattle.emp_dict.specs.declared.label.Label.TheVariants.{Base}
use Rattle.emp_dict.specs.Dictionary.{Dictionary, IsSound}
use Rattle.emp_decide.specs.Reads.{value_of, rate_of, IsPointOf, IsStepOf}
use Rattle.emp_decide.proofs.Points.{bottom_pos, rate_bottom_pos}
use Rattle.emp_search.specs.Search.{Finding, point, ray, State, Searched, closed, found, wide_at, out_of_units, search_of}
use Rattle.emp_search.specs.Shown.{BestIs, SearchShows}
use Rattle.emp_search.proofs.Rooted.{searches_show}
use Rattle.emp_walk.specs.declared.fault.WalkFault.{WalkFault}
use Rattle.emp_walk.specs.declared.fault.WalkFault.TheVariants.{Wide, Spent, NoMemory}
use Rattle.emp_walk.specs.Courses.{FaultGives}
use Rattle.emp_walk.specs.Searches.{VerdictGives}
use Rattle.emp_outcome_laws.specs.Laws.{OneEnd}
use Rattle.emp_outcome_laws.proofs.Dictionaries.{found_in}

-- ---- lists of fractions
same_list : (fs gs : List Frac) → length fs ≡ length gs → ((k : ℕ) (f : Frac) → k < length fs → get_or fs k f ≡ get_or gs k f) → fs ≡ gs
same_list [] [] e h = refl
same_list [] (g ∷ gs) e h = absurd (omega arith)
same_list (f ∷ fs) [] e h = absurd (omega arith)
same_list (f ∷ fs) (g ∷ gs) e h = both f g fs gs (h 0 f (omega arith)) (same_list fs gs (omega arith) (λ k d l. h (suc k) d (omega arith)))
  where
    both : (x y : Frac) (xs ys : List Frac) → x ≡ y → xs ≡ ys → x ∷ xs ≡ y ∷ ys
    both x y xs ys p q = rw (p, q) refl

one_point : (d : Dictionary) (fs gs : List Frac) → IsSound d → IsPointOf d fs → IsPointOf d gs → fs ≡ gs
one_point d fs gs sound h k =
    same_list fs gs (h.count ∙ sym k.count)
    (λ b f l. let here : b < length d.columns = (let c = h.count in omega arith) in
    let v = value_of d (Base (b + 1)) in
    one_value v.top v.bottom (get_or fs b f) (get_or gs b f) (bottom_pos d sound (Base (b + 1))) (h.values b f here) (k.values b f here))

one_step : (d : Dictionary) (j : ℕ) (up : Bool) (fs gs : List Frac) → IsSound d → IsStepOf d j up fs → IsStepOf d j up gs → fs ≡ gs
one_step d j up fs gs sound h k =
    same_list fs gs (h.count ∙ sym k.count)
    (λ b f l. let here : b < length d.columns = (let c = h.count in omega arith) in
    let v = rate_of d j up (Base (b + 1)) in
    one_value v.top v.bottom (get_or fs b f) (get_or gs b f) (rate_bottom_pos d j up sound (Base (b + 1))) (h.rates b f here) (k.rates b f here))

tree_eq : (t u : Tree) → t.nodes ≡ u.nodes → t ≡ u
tree_eq t u e = subst (λ (ns : List Node). Same ns) e start u.whole
  where
    Same : List Node → Type 0
    Same ns = (h : AreTrees 1 ns) → t ≡ record { nodes = ns; whole = h }

    start : Same t.nodes
    start h = λ i. record { nodes = t.nodes; whole = AreTrees-prop 1 t.nodes t.whole h i }

-- ---- ends of searches
closed_inside : (st su : State) → closed st ≡ closed su → st ≡ su
closed_inside st su e = cc

found_inside : (f g : Finding) (st su : State) → found f st ≡ found g su → (f ≡ g) × (st ≡ su)
found_inside f g st su e = (cc, cc)

closed_found : (st su : State) (f : Finding) → closed st ≡ found f su → ⊥
closed_found st su f e = cc

closed_wide : (st : State) (n p : ℕ) → closed st ≡ wide_at n p → ⊥
closed_wide st n p e = cc

closed_out : (st : State) → closed st ≡ out_of_units → ⊥
closed_out st e = cc

found_wide : (f : Finding) (st : State) (n p : ℕ) → found f st ≡ wide_at n p → ⊥
found_wide f st n p e = cc

found_out : (f : Finding) (st : State) → found f st ≡ out_of_units → ⊥
found_out f st e = cc

wide_out : (n p : ℕ) → wide_at n p ≡ out_of_units → ⊥
wide_out n p e = cc

wide_inside : (n p k q : ℕ) → wide_at n p ≡ wide_at k q → (n ≡ k) × (p ≡ q)
wide_inside n p k q e = (cc, cc)

point_inside : (d e : Dictionary) → point d ≡ point e → d ≡ e
point_inside d e h = cc

ray_inside : (d e : Dictionary) (i j : ℕ) (up on : Bool) → ray d i up ≡ ray e j on → (d ≡ e) × (i ≡ j) × (up ≡ on)
ray_inside d e i j up on h = (cc, cc, cc)

point_ray : (d e : Dictionary) (j : ℕ) (up : Bool) → point d ≡ ray e j up → ⊥
point_ray d e j up h = cc

-- ---- verdicts
module _ (s : RowSystem) (limit : ℕ) where
  abbrev Ends : Searched → Type 0
  Ends r = search_of s limit ≡ r

  best_sound : (st : State) (d : Dictionary) → Ends (closed st) → st.best ≡ Some d → IsSound d
  best_sound st d e b = sound (subst (BestIs s) b (subst (SearchShows s) e (searches_show s limit)).best)
    where
      sound : BestIs s (Some d) → IsSound d
      sound h = h.1.dictionary.sound

  -- both come to the same
  one_closed : (st su : State) → Ends (closed st) → Ends (closed su) → st ≡ su
  one_closed st su e f = closed_inside st su (sym e ∙ f)

  one_found : (f g : Finding) (st su : State) → Ends (found f st) → Ends (found g su) → (f ≡ g) × (st ≡ su)
  one_found f g st su d e = found_inside f g st su (sym d ∙ e)

  no_closed : (st su : State) (f : Finding) → Ends (closed st) → Ends (found f su) → ⊥
  no_closed st su f d e = closed_found st su f (sym d ∙ e)

  point_same : (d e : Dictionary) (p q : List Frac) → IsSound d → d ≡ e → IsPointOf d p → IsPointOf e q → p ≡ q
  point_same d e p q sound same h k = one_point d p q sound h (subst (λ (x : Dictionary). IsPointOf x q) (sym same) k)

  step_same : (d e : Dictionary) (i j : ℕ) (up on : Bool) (p q : List Frac) → IsSound d → d ≡ e → i ≡ j → up ≡ on → IsStepOf d i up p → IsStepOf e j on q → p ≡ q
  step_same d e i j up on p q sound a b c h k =
      one_step d i up p q sound h
      (subst (λ (x : Dictionary). IsStepOf x i up q) (sym a) (subst (λ (n : ℕ). IsStepOf e n up q) (sym b) (subst (λ (x : Bool). IsStepOf e j x q) (sym c) k)))

  abbrev Told : State → Verdict → Type 0
  Told st v = VerdictGives (search_of s limit) st v

  record SameEnd (st su : State) (v w : Verdict) : Type 0 where
    state : st ≡ su
    verdict : v ≡ w

  best_eq : (p q : List Frac) (t u : Tree) → p ≡ q → t ≡ u → Best p t ≡ Best q u
  best_eq p q t u e f = rw (e, f) refl

  unbounded_eq : (p q x y : List Frac) → p ≡ q → x ≡ y → Unbounded p x ≡ Unbounded q y
  unbounded_eq p q x y e f = rw (e, f) refl

  one_told : (st su : State) (v w : Verdict) → Told st v → Told su w → SameEnd st su v w
  one_told st su (Point p) (Point q) h k =
      let e = one_found (point h.0) (point k.0) st su h.1 k.1 in
      let same = point_inside h.0 k.0 e.0 in
      record { state = e.1; verdict = ap Point (point_same h.0 k.0 p q (found_in s limit (point h.0) st h.1).sound same h.2 k.2) }
  one_told st su (Missing t) (Missing u) h k =
      let e = one_closed st su h.0 k.0 in
      record { state = e; verdict = ap Missing (tree_eq t u (h.2 ∙ (ap (λ (x : State). x.written) e ∙ sym k.2))) }
  one_told st su (Best p t) (Best q u) h k =
      let e = one_closed st su h.1 k.1 in
      let same : h.0 ≡ k.0 = same_Some h.0 k.0 (sym h.2 ∙ (ap (λ (x : State). x.best) e ∙ k.2)) in
      record {
        state = e;
        verdict = best_eq p q t u (point_same h.0 k.0 p q (best_sound st h.0 h.1 h.2) same h.3 k.3) (tree_eq t u (h.4 ∙ (ap (λ (x : State). x.written) e ∙ sym k.4)));
      }
  one_told st su (Unbounded p x) (Unbounded q y) h k =
      let e = one_found (ray h.0 h.1 h.2) (ray k.0 k.1 k.2) st su h.3 k.3 in
      let same = ray_inside h.0 k.0 h.1 k.1 h.2 k.2 e.0 in
      let sound = (found_in s limit (ray h.0 h.1 h.2) st h.3).sound in
      record {
        state = e.1;
        verdict = unbounded_eq p q x y (point_same h.0 k.0 p q sound same.0 h.4 k.4) (step_same h.0 k.0 h.1 k.1 h.2 k.2 x y sound same.0 same.1 same.2 h.5 k.5);
      }
  one_told st su (Point p) (Missing u) h k = absurd (no_closed su st (point h.0) k.0 h.1)
  one_told st su (Point p) (Best q u) h k = absurd (no_closed su st (point h.0) k.1 h.1)
  one_told st su (Point p) (Unbounded q y) h k = absurd (point_ray h.0 k.0 k.1 k.2 (one_found (point h.0) (ray k.0 k.1 k.2) st su h.1 k.3).0)
  one_told st su (Missing t) (Point q) h k = absurd (no_closed st su (point k.0) h.0 k.1)
  one_told st su (Missing t) (Best q u) h k = absurd (none-some k.0 (sym h.1 ∙ (ap (λ (x : State). x.best) (one_closed st su h.0 k.1) ∙ k.2)))
  one_told st su (Missing t) (Unbounded q y) h k = absurd (no_closed st su (ray k.0 k.1 k.2) h.0 k.3)
  one_told st su (Best p t) (Point q) h k = absurd (no_closed st su (point k.0) h.1 k.1)
  one_told st su (Best p t) (Missing u) h k = absurd (none-some h.0 (sym k.1 ∙ (ap (λ (x : State). x.best) (sym (one_closed st su h.1 k.0)) ∙ h.2)))
  one_told st su (Best p t) (Unbounded q y) h k = absurd (no_closed st su (ray k.0 k.1 k.2) h.1 k.3)
  one_told st su (Unbounded p x) (Point q) h k = absurd (point_ray k.0 h.0 h.1 h.2 (one_found (point k.0) (ray h.0 h.1 h.2) su st k.1 h.3).0)
  one_told st su (Unbounded p x) (Missing u) h k = absurd (no_closed su st (ray h.0 h.1 h.2) k.0 h.3)
  one_told st su (Unbounded p x) (Best q u) h k = absurd (no_closed su st (ray h.0 h.1 h.2) k.1 h.3)

  -- a search that tells a verdict has no fault
  told_wide : (st : State) (v : Verdict) (n p : ℕ) → Told st v → Ends (wide_at n p) → ⊥
  told_wide st (Point f) n p h e = found_wide (point h.0) st n p (sym h.1 ∙ e)
  told_wide st (Missing t) n p h e = closed_wide st n p (sym h.0 ∙ e)
  told_wide st (Best f t) n p h e = closed_wide st n p (sym h.1 ∙ e)
  told_wide st (Unbounded f g) n p h e = found_wide (ray h.0 h.1 h.2) st n p (sym h.3 ∙ e)

  told_out : (st : State) (v : Verdict) → Told st v → Ends out_of_units → ⊥
  told_out st (Point f) h e = found_out (point h.0) st (sym h.1 ∙ e)
  told_out st (Missing t) h e = closed_out st (sym h.0 ∙ e)
  told_out st (Best f t) h e = closed_out st (sym h.1 ∙ e)
  told_out st (Unbounded f g) h e = found_out (ray h.0 h.1 h.2) st (sym h.3 ∙ e)

  told_fault : (st : State) (v : Verdict) (f : WalkFault) → f ≢ NoMemory → Told st v → FaultGives (search_of s limit) limit f → ⊥
  told_fault st v (Wide n p) named h e = told_wide st v n p h e
  told_fault st v (Spent l) named h e = told_out st v h e.0
  told_fault st v NoMemory named h e = named refl

  wide_eq : (n p k q : ℕ) → n ≡ k → p ≡ q → Wide n p ≡ Wide k q
  wide_eq n p k q e f = rw (e, f) refl

  one_walk_fault : (f g : WalkFault) → f ≢ NoMemory → g ≢ NoMemory → FaultGives (search_of s limit) limit f → FaultGives (search_of s limit) limit g → f ≡ g
  one_walk_fault (Wide n p) (Wide k q) a b h e = let x = wide_inside n p k q (sym h ∙ e) in wide_eq n p k q x.0 x.1
  one_walk_fault (Wide n p) (Spent l) a b h e = absurd (wide_out n p (sym h ∙ e.0))
  one_walk_fault (Spent l) (Wide n p) a b h e = absurd (wide_out n p (sym e ∙ h.0))
  one_walk_fault (Spent l) (Spent k) a b h e = ap Spent (h.1 ∙ sym e.1)
  one_walk_fault NoMemory g a b h e = absurd (a refl)
  one_walk_fault f NoMemory a b h e = absurd (b refl)

-- ---- certificates
linked_once : (links : Option (List (ℕ × ℕ))) (q p : ℕ) → IsProp ((ps : List (ℕ × ℕ)) → links ≡ Some ps → LinksFit q p ps)
linked_once links q p = Π_prop (λ ps. Π_prop (λ e. hlevel props))

counts_once : (b q p : ℕ) → IsProp (Counts b q p)
counts_once b q p = hlevel props

cert_eq : (c d : Cert) → c.base ≡ d.base → c.quantities ≡ d.quantities → c.pairs ≡ d.pairs → c.links ≡ d.links → c.verdict ≡ d.verdict → c ≡ d
cert_eq c d b q p l v =
    subst (λ (x : Verdict). Same d.base d.quantities d.pairs d.links x) v
    (subst (λ (o : Option (List (ℕ × ℕ))). Same d.base d.quantities d.pairs o c.verdict) l
    (subst (λ (n : ℕ). Same d.base d.quantities n c.links c.verdict) p
    (subst (λ (n : ℕ). Same d.base n c.pairs c.links c.verdict) q
    (subst (λ (n : ℕ). Same n c.quantities c.pairs c.links c.verdict) b
    start))))
    d.counts d.linked d.fits
  where
    Same : ℕ → ℕ → ℕ → Option (List (ℕ × ℕ)) → Verdict → Type 0
    Same n k h o x =
        (counts : Counts n k h) (linked : (ps : List (ℕ × ℕ)) → o ≡ Some ps → LinksFit k h ps) (fits : VerdictFits n k h x)
        → c ≡ record { base = n; quantities = k; pairs = h; links = o; verdict = x; counts = counts; linked = linked; fits = fits }

    start : Same c.base c.quantities c.pairs c.links c.verdict
    start counts linked fits = λ i. record {
      base = c.base;
      quantities = c.quantities;
      pairs = c.pairs;
      links = c.links;
      verdict = c.verdict;
      counts = counts_once c.base c.quantities c.pairs c.counts counts i;
      linked = linked_once c.links c.quantities c.pairs c.linked linked i;
      fits = VerdictFits-prop c.base c.quantities c.pairs c.verdict c.fits fits i;
    }

found_eq : (f g : Found) → f.cert ≡ g.cert → f.work ≡ g.work → f.nodes ≡ g.nodes → f ≡ g
found_eq f g c w n = same f.cert g.cert f.work g.work f.nodes g.nodes c w n
  where
    same : (c d : Cert) (w x n k : ℕ) → c ≡ d → w ≡ x → n ≡ k → ◌≡◌ {A = Found} (record { cert = c; work = w; nodes = n }) (record { cert = d; work = x; nodes = k })
    same c d w x n k e f g = rw (e, f, g) refl

-- ---- the end
error_named : (f : WalkFault) → ◌≢◌ {A = Result Found WalkFault} (Err f) (Err NoMemory) → f ≢ NoMemory
error_named f n e = n (ap Err e)

pub one_end : OneEnd
one_end s limit (Ok f) (Ok g) n o h k =
    let x = one_told s limit h.answer.state k.answer.state f.cert.verdict g.cert.verdict h.answer.verdict k.answer.verdict in
    ap Ok
    (found_eq f g
    (cert_eq f.cert g.cert (h.names.base ∙ sym k.names.base) (h.names.quantities ∙ sym k.names.quantities) (h.names.pairs ∙ sym k.names.pairs) (h.names.links ∙ sym k.names.links) x.verdict)
    (h.answer.work ∙ (ap (λ (st : State). limit - st.left) x.state ∙ sym k.answer.work))
    (h.answer.nodes ∙ (ap (λ (st : State). st.nodes) x.state ∙ sym k.answer.nodes)))
one_end s limit (Ok f) (Err g) n o h k = absurd (told_fault s limit h.answer.state f.cert.verdict g (error_named g o) h.answer.verdict k)
one_end s limit (Err f) (Ok g) n o h k = absurd (told_fault s limit k.answer.state g.cert.verdict f (error_named f n) k.answer.verdict h)
one_end s limit (Err f) (Err g) n o h k = ap Err (one_walk_fault s limit f g (error_named f n) (error_named g o) h k)
