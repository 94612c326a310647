-- What is put at the end, one by one.
use Rattle.std.proofs.Common.{◌≡◌, ℕ, ◌+◌, ◌<◌, ◌≤◌, List, [], ◌∷◌, ◌++◌, length, get_or, drop, refl, sym, ap, ◌∙◌, append_assoc, append-nil, length-append}
use Rattle.std.proofs.lemmas.List.{drop_more, drop_all}
use Rattle.emp_ast.specs.declared.tree.VarId.{VarId}
use Rattle.emp_rows.specs.declared.system.Kind.{Kind}
use Rattle.emp_game.specs.Game.{range_at}
use Rattle.emp_problem.specs.declared.problem.Rule.{Rule}
use Rattle.emp_problem.specs.declared.problem.BlockPart.{BlockPart}
use Rattle.emp_problem.specs.declared.problem.AgentProblem.{AgentProblem}
use Rattle.emp_problem.specs.Problem.{place_of}
use Rattle.emp_kkt.specs.declared.asked.Item.{Item}
use Rattle.emp_kkt.specs.declared.asked.Asked.{Asked}
use Rattle.emp_kkt.specs.Items.{shape, coordinate_asked, own_asked, one_rule_asked, rules_asked, blocks_asked, leader_range_asked, leader_own_asked, leader_rule_asked, leader_rules_asked, items_one, items_of, kinds_one, asked_kinds, pairs_one, asked_pairs}

-- ---- a list that is put part by part: what stands so far, and then the parts of what is left
pub put_step : {X Y : Type 0} (F : ℕ → List X → List Y) (part : List Y) (xs : List X) (at : ℕ) (x : X) (out new all : List Y) → at < length xs → x ≡ get_or xs at x → ((ys : List X) → F at (x ∷ ys) ≡ part ++ F (at + 1) ys) → new ≡ out ++ part → out ++ F at (drop at xs) ≡ all → new ++ F (at + 1) (drop (at + 1) xs) ≡ all
put_step F part xs at x out new all h is split e inv =
    ap (λ l. l ++ F (at + 1) (drop (at + 1) xs)) e
    ∙ (append_assoc out part (F (at + 1) (drop (at + 1) xs))
    ∙ (ap (λ l. out ++ l) (sym (split (drop (at + 1) xs)))
    ∙ (ap (λ l. out ++ F at l) (ap (λ y. y ∷ drop (at + 1) xs) is ∙ sym (drop_more xs at x h)) ∙ inv)))

pub put_end : {X Y : Type 0} (F : ℕ → List X → List Y) (xs : List X) (at : ℕ) (out all : List Y) → ((k : ℕ) → F k [] ≡ []) → length xs ≤ at → out ++ F at (drop at xs) ≡ all → out ≡ all
put_end F xs at out all none h inv = sym (append-nil out) ∙ (ap (λ l. out ++ l) (sym (none at)) ∙ (ap (λ l. out ++ F at l) (sym (drop_all at xs h)) ∙ inv))

-- ---- own variables
pub own_more : (pr : AgentProblem) (j : ℕ) (vs : List VarId) (at : ℕ) (v : VarId) (out new all : List Asked) → at < length vs → v ≡ get_or vs at v → new ≡ out ++ coordinate_asked pr j at (place_of pr v) → out ++ own_asked pr j at (drop at vs) ≡ all → new ++ own_asked pr j (at + 1) (drop (at + 1) vs) ≡ all
own_more pr j vs at v out new all h is e inv = put_step (own_asked pr j) (coordinate_asked pr j at (place_of pr v)) vs at v out new all h is (λ ys. refl) e inv

pub own_end : (pr : AgentProblem) (j : ℕ) (vs : List VarId) (at : ℕ) (out all : List Asked) → length vs ≤ at → out ++ own_asked pr j at (drop at vs) ≡ all → out ≡ all
own_end pr j vs at out all h inv = put_end (own_asked pr j) vs at out all (λ k. refl) h inv

-- ---- rules
pub rules_more : (pr : AgentProblem) (j : ℕ) (rs : List Rule) (at : ℕ) (r : Rule) (out new all : List Asked) → at < length rs → r ≡ get_or rs at r → new ≡ out ++ one_rule_asked pr j at r → out ++ rules_asked pr j at (drop at rs) ≡ all → new ++ rules_asked pr j (at + 1) (drop (at + 1) rs) ≡ all
rules_more pr j rs at r out new all h is e inv = put_step (rules_asked pr j) (one_rule_asked pr j at r) rs at r out new all h is (λ ys. refl) e inv

pub rules_end : (pr : AgentProblem) (j : ℕ) (rs : List Rule) (at : ℕ) (out all : List Asked) → length rs ≤ at → out ++ rules_asked pr j at (drop at rs) ≡ all → out ≡ all
rules_end pr j rs at out all h inv = put_end (rules_asked pr j) rs at out all (λ k. refl) h inv

-- ---- blocks
pub blocks_more : (pr : AgentProblem) (bs : List BlockPart) (at : ℕ) (b : BlockPart) (out new all : List Asked) → at < length bs → b ≡ get_or bs at b → new ≡ out ++ (own_asked pr at 0 b.own ++ rules_asked pr at 0 b.rules) → out ++ blocks_asked pr at (drop at bs) ≡ all → new ++ blocks_asked pr (at + 1) (drop (at + 1) bs) ≡ all
blocks_more pr bs at b out new all h is e inv = put_step (blocks_asked pr) (own_asked pr at 0 b.own ++ rules_asked pr at 0 b.rules) bs at b out new all h is (λ ys. refl) e inv

pub blocks_end : (pr : AgentProblem) (bs : List BlockPart) (at : ℕ) (out all : List Asked) → length bs ≤ at → out ++ blocks_asked pr at (drop at bs) ≡ all → out ≡ all
blocks_end pr bs at out all h inv = put_end (blocks_asked pr) bs at out all (λ k. refl) h inv

-- ---- the leader
abbrev pub leader_one : AgentProblem → VarId → List Asked
leader_one pr v = leader_range_asked (range_at (shape pr).ranges (place_of pr v)).0 (range_at (shape pr).ranges (place_of pr v)).1 (place_of pr v)

pub leader_own_more : (pr : AgentProblem) (vs : List VarId) (at : ℕ) (v : VarId) (out new all : List Asked) → at < length vs → v ≡ get_or vs at v → new ≡ out ++ leader_one pr v → out ++ leader_own_asked pr (drop at vs) ≡ all → new ++ leader_own_asked pr (drop (at + 1) vs) ≡ all
leader_own_more pr vs at v out new all h is e inv = put_step (λ k. leader_own_asked pr) (leader_one pr v) vs at v out new all h is (λ ys. refl) e inv

pub leader_own_end : (pr : AgentProblem) (vs : List VarId) (at : ℕ) (out all : List Asked) → length vs ≤ at → out ++ leader_own_asked pr (drop at vs) ≡ all → out ≡ all
leader_own_end pr vs at out all h inv = put_end (λ k. leader_own_asked pr) vs at out all (λ k. refl) h inv

pub leader_rules_more : (rs : List Rule) (at : ℕ) (r : Rule) (out new all : List Asked) → at < length rs → r ≡ get_or rs at r → new ≡ out ++ leader_rule_asked r.relation at → out ++ leader_rules_asked at (drop at rs) ≡ all → new ++ leader_rules_asked (at + 1) (drop (at + 1) rs) ≡ all
leader_rules_more rs at r out new all h is e inv = put_step leader_rules_asked (leader_rule_asked r.relation at) rs at r out new all h is (λ ys. refl) e inv

pub leader_rules_end : (rs : List Rule) (at : ℕ) (out all : List Asked) → length rs ≤ at → out ++ leader_rules_asked at (drop at rs) ≡ all → out ≡ all
leader_rules_end rs at out all h inv = put_end leader_rules_asked rs at out all (λ k. refl) h inv

pub ruleset putting = (append_assoc, own_more, own_end, rules_more, rules_end, blocks_more, blocks_end, leader_own_more, leader_own_end, leader_rules_more, leader_rules_end)

-- ---- items, kinds and pairs
pub items_more : (cs : List Asked) (at : ℕ) (c : Asked) (out new all : List Item) → at < length cs → c ≡ get_or cs at c → new ≡ out ++ items_one c → out ++ items_of (drop at cs) ≡ all → new ++ items_of (drop (at + 1) cs) ≡ all
items_more cs at c out new all h is e inv = put_step (λ k. items_of) (items_one c) cs at c out new all h is (λ ys. refl) e inv

pub items_end : (cs : List Asked) (at : ℕ) (out all : List Item) → length cs ≤ at → out ++ items_of (drop at cs) ≡ all → out ≡ all
items_end cs at out all h inv = put_end (λ k. items_of) cs at out all (λ k. refl) h inv

pub kinds_more : (cs : List Asked) (at : ℕ) (c : Asked) (out new all : List Kind) → at < length cs → c ≡ get_or cs at c → new ≡ out ++ kinds_one c → out ++ asked_kinds (drop at cs) ≡ all → new ++ asked_kinds (drop (at + 1) cs) ≡ all
kinds_more cs at c out new all h is e inv = put_step (λ k. asked_kinds) (kinds_one c) cs at c out new all h is (λ ys. refl) e inv

pub kinds_end : (cs : List Asked) (at : ℕ) (out all : List Kind) → length cs ≤ at → out ++ asked_kinds (drop at cs) ≡ all → out ≡ all
kinds_end cs at out all h inv = put_end (λ k. asked_kinds) cs at out all (λ k. refl) h inv

pub ruleset listing = (items_more, items_end, kinds_more, kinds_end)

pub length-items : (cs : List Asked) (at : ℕ) (c : Asked) → at < length cs → c ≡ get_or cs at c → length (items_of (drop at cs)) ≡ length (items_one c) + length (items_of (drop (at + 1) cs))
length-items cs at c h is = ap (λ l. length (items_of l)) (drop_more cs at c h ∙ ap (λ y. y ∷ drop (at + 1) cs) (sym is)) ∙ length-append (items_one c) (items_of (drop (at + 1) cs))

pub pairs_more : (cs : List Asked) (at before next : ℕ) (c : Asked) (out new all : List (ℕ × ℕ)) → at < length cs → c ≡ get_or cs at c → next ≡ before + length (items_one c) → new ≡ out ++ pairs_one before c → out ++ asked_pairs before (drop at cs) ≡ all → new ++ asked_pairs next (drop (at + 1) cs) ≡ all
pairs_more cs at before next c out new all h is step e inv =
    ap (λ l. l ++ asked_pairs next (drop (at + 1) cs)) e
    ∙ (append_assoc out (pairs_one before c) (asked_pairs next (drop (at + 1) cs))
    ∙ (ap (λ k. out ++ (pairs_one before c ++ asked_pairs k (drop (at + 1) cs))) step
    ∙ (ap (λ l. out ++ asked_pairs before l) (ap (λ y. y ∷ drop (at + 1) cs) is ∙ sym (drop_more cs at c h)) ∙ inv)))

pub pairs_end : (cs : List Asked) (at before : ℕ) (out all : List (ℕ × ℕ)) → length cs ≤ at → out ++ asked_pairs before (drop at cs) ≡ all → out ≡ all
pairs_end cs at before out all h inv = sym (append-nil out) ∙ (ap (λ l. out ++ asked_pairs before l) (sym (drop_all at cs h)) ∙ inv)

pub ruleset pairing = (length-items, pairs_more, pairs_end)
