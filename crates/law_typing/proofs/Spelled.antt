-- What the grammar says of each part of a text.
use Rattle.std.proofs.Common.{◌≡◌, ℕ, ◌+◌, ◌<◌, ◌≤◌, ◌^◌, max, sum, List, [], ◌∷◌, map, length, Bool, true, false, ◌&&◌, ◌||◌, ◌==◌, nat_le, leb-true, IsTrue, rules, arith, refl, sym, ap, ap₂, ◌∙◌, subst}
use Rattle.std.specs.List.{list_all, AllByRecursion}
use Rattle.std.proofs.lemmas.Grind.{common_steps}
use Rattle.law_sig.specs.Names.{is_letter, is_name_byte, is_name}
use Rattle.law_sig.specs.Lists.{Each, total}
use Rattle.law_sig.specs.Trees.{node_count, nodes_step, depth, depth_step, greatest}
use Rattle.law_sig.specs.Bodies.{body_nodes, body_nodes_step, body_depth, body_depth_step}
use Rattle.law_sig.specs.WellFormed.{IsWritable}
use Rattle.law_sig.specs.declared.tree.Tree.{Tree}
use Rattle.law_sig.specs.declared.tree.Body.{Body}
use Rattle.law_sig.specs.declared.tree.Body.TheOpen as b
use Rattle.law_sig.specs.declared.parts.SigParts.{SigParts}
use Rattle.law_laws.proofs.TreeFacts.{tree_induct, fold-Var, fold-App}
use Rattle.law_laws.proofs.BodyFacts.{body_induct}
use Rattle.law_lines.specs.Terms.{IsTerm, is_name_in, larger, largest}
use Rattle.law_lines.specs.declared.want.Bounds.TheVariants.{Kept}
use Rattle.law_lines.specs.declared.want.Place.{Place}
use Rattle.law_lines.specs.declared.want.Place.TheVariants.{Equation, Body as BodyPlace, Value}
use Rattle.law_lines.specs.Terms as raw
use Rattle.law_lines.specs.Lines.{IsName, AreSorts, AreValues, IsLine}
use Rattle.law_lines.specs.declared.raw.RawHead.{RawHead}
use Rattle.law_lines.specs.declared.raw.RawHead.TheVariants as head
use Rattle.law_lines.specs.declared.raw.RawTerm.{RawTerm}
use Rattle.law_lines.specs.declared.raw.RawTerm.TheOpen.{RawTerm-F}
use Rattle.law_lines.specs.declared.raw.RawTerm.TheFolds.{fold-roll-RawTerm}
use Rattle.law_lines.specs.declared.raw.RawLine.{RawLine}
use Rattle.law_typing.specs.Naming.{raw_term, sort_name, symbol_name, named_term, name_step, named_body, name_body_step}
use Rattle.law_typing.specs.Typed.{Version}
use Rattle.law_typing.specs.Typed.Version.{first, second, third}
use Rattle.law_typing.proofs.BodySound.{body_fold}
use Rattle.law_typing.proofs.Laid.{ConRow, SortRow, CaseRow, Rules, FunRow, SidesRow, ValuesRow, PoolRows, Layout, con_line, sort_line, fun_line, cons_then, sorts_then, cases_then, rules_then, funs_then, background_then, values_then, pools_then, pool_lines, rule_line, start_then, tail_lines, declared_lines, layout_lines}
use Rattle.law_typing.proofs.Laid.Rules.{single, matching}
use Rattle.law_typing.proofs.Laid.PoolRows.{given, seeded}
use Rattle.law_typing.proofs.Passed.{Both}

-- Names

or_assoc : (x y z : Bool) → ((x || y) || z) ≡ (x || (y || z))
or_assoc true y z = refl
or_assoc false y z = refl

abbrev read_byte : ℕ → Bool
read_byte n = is_letter n || (nat_le 48 n && nat_le n 57) || n == 95

byte_same : (n : ℕ) → read_byte n ≡ is_name_byte n
byte_same n = or_assoc (is_letter n) (nat_le 48 n && nat_le n 57) (n == 95)

bytes_same : (ns : List ℕ) → list_all read_byte ns ≡ list_all is_name_byte ns
bytes_same [] = refl
bytes_same (n ∷ ns) = ap₂ ◌&&◌ (byte_same n) (bytes_same ns)

pub name_same : (name : List ℕ) → is_name_in Kept name ≡ is_name name
name_same [] = refl
name_same (n ∷ ns) = ap (λ z. (is_letter n && z) && nat_le (length (n ∷ ns)) 32) (bytes_same ns)

pub is_spelled : (name : List ℕ) → IsName Kept name → IsTrue (is_name name)
is_spelled name h = sym (name_same name) ∙ h

-- Sizes

sum_more : (n : ℕ) (ns : List ℕ) → sum (n ∷ ns) ≡ n + sum ns
sum_more n ns = grind (arith, common_steps)

sum_total : (ns : List ℕ) → sum ns ≡ total ns
sum_total [] = refl
sum_total (n ∷ ns) = sum_more n ns ∙ ap (λ z. n + z) (sum_total ns)

larger_max : (c : Bool) (m n : ℕ) → nat_le m n ≡ c → larger c m n ≡ max m n
larger_max true m n e = let l : m ≤ n = leb-true m n e in omega arith
larger_max false m n e = let l : n < m = search (rules, e) in omega arith

largest_greatest : (ns : List ℕ) → largest ns ≡ greatest ns
largest_greatest [] = refl
largest_greatest (n ∷ ns) = larger_max (nat_le n (largest ns)) n (largest ns) refl ∙ ap (max n) (largest_greatest ns)

raw_nodes : (h : RawHead) (args : List RawTerm) → raw.node_count (raw_term h args) ≡ 1 + sum (map raw.node_count args)
raw_nodes h args = let l : RawTerm-F RawTerm = record { head = h; args = args } in fold-roll-RawTerm ℕ (λ term. 1 + sum term.args) l

raw_depth : (h : RawHead) (args : List RawTerm) → raw.depth (raw_term h args) ≡ 1 + largest (map raw.depth args)
raw_depth h args = let l : RawTerm-F RawTerm = record { head = h; args = args } in fold-roll-RawTerm ℕ (λ term. 1 + largest term.args) l

mapped : {A : Type 0} (f : A → ℕ) (g : RawTerm → ℕ) (n : A → RawTerm) (xs : List A) → Each (λ x. g (n x) ≡ f x) xs → map g (map n xs) ≡ map f xs
mapped f g n [] h = refl
mapped f g n (x ∷ xs) h = ap₂ ◌∷◌ h.0 (mapped f g n xs h.1)

pub named_nodes : (parts : SigParts) (t : Tree) → raw.node_count (named_term parts t) ≡ node_count t
named_nodes parts = tree_induct (λ t. raw.node_count (named_term parts t) ≡ node_count t)
    (λ s i. ap raw.node_count (fold-Var RawTerm (name_step parts) s i) ∙ raw_nodes (head.Var (sort_name parts s) i) [] ∙ sym (fold-Var ℕ nodes_step s i))
    (λ f args have. ap raw.node_count (fold-App RawTerm (name_step parts) f args) ∙ raw_nodes (head.Name (symbol_name parts f)) (map (named_term parts) args)
    ∙ ap (λ z. 1 + z) (sum_total (map raw.node_count (map (named_term parts) args)) ∙ ap total (mapped node_count raw.node_count (named_term parts) args have))
    ∙ sym (fold-App ℕ nodes_step f args))

pub named_depth : (parts : SigParts) (t : Tree) → raw.depth (named_term parts t) ≡ depth t
named_depth parts = tree_induct (λ t. raw.depth (named_term parts t) ≡ depth t)
    (λ s i. ap raw.depth (fold-Var RawTerm (name_step parts) s i) ∙ raw_depth (head.Var (sort_name parts s) i) [] ∙ sym (fold-Var ℕ depth_step s i))
    (λ f args have. ap raw.depth (fold-App RawTerm (name_step parts) f args) ∙ raw_depth (head.Name (symbol_name parts f)) (map (named_term parts) args)
    ∙ ap (λ z. 1 + z) (largest_greatest (map raw.depth (map (named_term parts) args)) ∙ ap greatest (mapped depth raw.depth (named_term parts) args have))
    ∙ sym (fold-App ℕ depth_step f args))

body_nodes_are : (parts : SigParts) (t : Body) → raw.node_count (named_body parts t) ≡ body_nodes t
body_nodes_are parts = body_induct (λ t. raw.node_count (named_body parts t) ≡ body_nodes t)
    (λ t n e. ap raw.node_count (body_fold RawTerm (name_body_step parts) t (b.Field n) e) ∙ raw_nodes (head.Field n) [] ∙ sym (body_fold ℕ body_nodes_step t (b.Field n) e))
    (λ t n e. ap raw.node_count (body_fold RawTerm (name_body_step parts) t (b.Param n) e) ∙ raw_nodes (head.Param n) [] ∙ sym (body_fold ℕ body_nodes_step t (b.Param n) e))
    (λ t f args e have. ap raw.node_count (body_fold RawTerm (name_body_step parts) t (b.Make f args) e) ∙ raw_nodes (head.Name (symbol_name parts f)) (map (named_body parts) args)
    ∙ ap (λ z. 1 + z) (sum_total (map raw.node_count (map (named_body parts) args)) ∙ ap total (mapped body_nodes raw.node_count (named_body parts) args have))
    ∙ sym (body_fold ℕ body_nodes_step t (b.Make f args) e))
    (λ t f args e have. ap raw.node_count (body_fold RawTerm (name_body_step parts) t (b.Call f args) e) ∙ raw_nodes (head.Name (symbol_name parts f)) (map (named_body parts) args)
    ∙ ap (λ z. 1 + z) (sum_total (map raw.node_count (map (named_body parts) args)) ∙ ap total (mapped body_nodes raw.node_count (named_body parts) args have))
    ∙ sym (body_fold ℕ body_nodes_step t (b.Call f args) e))

body_depth_is : (parts : SigParts) (t : Body) → raw.depth (named_body parts t) ≡ body_depth t
body_depth_is parts = body_induct (λ t. raw.depth (named_body parts t) ≡ body_depth t)
    (λ t n e. ap raw.depth (body_fold RawTerm (name_body_step parts) t (b.Field n) e) ∙ raw_depth (head.Field n) [] ∙ sym (body_fold ℕ body_depth_step t (b.Field n) e))
    (λ t n e. ap raw.depth (body_fold RawTerm (name_body_step parts) t (b.Param n) e) ∙ raw_depth (head.Param n) [] ∙ sym (body_fold ℕ body_depth_step t (b.Param n) e))
    (λ t f args e have. ap raw.depth (body_fold RawTerm (name_body_step parts) t (b.Make f args) e) ∙ raw_depth (head.Name (symbol_name parts f)) (map (named_body parts) args)
    ∙ ap (λ z. 1 + z) (largest_greatest (map raw.depth (map (named_body parts) args)) ∙ ap greatest (mapped body_depth raw.depth (named_body parts) args have))
    ∙ sym (body_fold ℕ body_depth_step t (b.Make f args) e))
    (λ t f args e have. ap raw.depth (body_fold RawTerm (name_body_step parts) t (b.Call f args) e) ∙ raw_depth (head.Name (symbol_name parts f)) (map (named_body parts) args)
    ∙ ap (λ z. 1 + z) (largest_greatest (map raw.depth (map (named_body parts) args)) ∙ ap greatest (mapped body_depth raw.depth (named_body parts) args have))
    ∙ sym (body_fold ℕ body_depth_step t (b.Call f args) e))

-- a tree that is written as a written term, and a body, are within its bounds
pub record HasSize (t : RawTerm) : Type 0 where
  pub nodes : raw.node_count t ≤ 4096
  pub depth : raw.depth t ≤ 256

term_size : (place : Place) (t : RawTerm) → IsTerm Kept place t → HasSize t
term_size place t h = record { nodes = leb-true (raw.node_count t) 4096 h.size; depth = leb-true (raw.depth t) 256 h.deep }

pub tree_writable : (parts : SigParts) (t : Tree) (term : RawTerm) → named_term parts t ≡ term → HasSize term → IsWritable (node_count t) (depth t)
tree_writable parts t term e h = record {
  nodes_bound = subst (λ n. n ≤ 4096) (sym (ap raw.node_count e) ∙ named_nodes parts t) h.nodes;
  depth_bound = subst (λ n. n ≤ 256) (sym (ap raw.depth e) ∙ named_depth parts t) h.depth;
}

pub body_writable : (parts : SigParts) (t : Body) (term : RawTerm) → named_body parts t ≡ term → HasSize term → IsWritable (body_nodes t) (body_depth t)
body_writable parts t term e h = record {
  nodes_bound = subst (λ n. n ≤ 4096) (sym (ap raw.node_count e) ∙ body_nodes_are parts t) h.nodes;
  depth_bound = subst (λ n. n ≤ 256) (sym (ap raw.depth e) ∙ body_depth_is parts t) h.depth;
}

-- The parts of a text

abbrev pub AreLines : List RawLine → Type 0
AreLines lines = AllByRecursion (IsLine Kept) lines

pub record ConSpelled (c : ConRow) : Type 0 where
  pub name : IsTrue (is_name c.name)
  pub few : length c.args ≤ 8

pub record SortSpelled (s : SortRow) : Type 0 where
  pub name : IsTrue (is_name s.name)
  pub cons : Each ConSpelled s.cons

abbrev pub RulesSpelled : Rules → Type 0
RulesSpelled (single t) = HasSize t
RulesSpelled (matching n cs) = Each (λ (c : CaseRow). HasSize c.body) cs

pub record FunSpelled (r : FunRow) : Type 0 where
  pub name : IsTrue (is_name r.name)
  pub few : length r.args ≤ 8
  pub rules : RulesSpelled r.rules

pub record SidesSpelled (e : SidesRow) : Type 0 where
  pub left : HasSize e.left
  pub right : HasSize e.right

abbrev pub RowSpelled : ValuesRow → Type 0
RowSpelled v = Each HasSize v.values

abbrev pub EndsSpelled : PoolRows → Type 0
EndsSpelled (given ps) = Each (Each RowSpelled) ps
EndsSpelled (seeded s h c) = s < 2 ^ 63

few_args : (args : List (List ℕ)) → AreSorts Kept args → length args ≤ 8
few_args args h = leb-true (length args) 8 h.few

con_spelled : (v : Version) (c : ConRow) → IsLine Kept (con_line v c) → ConSpelled c
con_spelled (first vars width) c h = record { name = is_spelled c.name h.0; few = few_args c.args h.1 }
con_spelled second c h = record { name = is_spelled c.name h.0; few = few_args c.args h.1 }
con_spelled third c h = record { name = is_spelled c.name h.1; few = few_args c.args h.2 }

sort_spelled : (v : Version) (s : SortRow) → IsLine Kept (sort_line v s) → IsTrue (is_name s.name)
sort_spelled (first vars width) s h = is_spelled s.name h
sort_spelled second s h = is_spelled s.name h.0
sort_spelled third s h = is_spelled s.name h.0

fun_spelled : (v : Version) (r : FunRow) → IsLine Kept (fun_line v r) → RulesSpelled r.rules → FunSpelled r
fun_spelled (first vars width) r h k = record { name = is_spelled r.name h.0; few = few_args r.args h.1; rules = k }
fun_spelled second r h k = record { name = is_spelled r.name h.0; few = few_args r.args h.1; rules = k }
fun_spelled third r h k = record { name = is_spelled r.name h.1; few = few_args r.args h.2; rules = k }

cons_spelled : (v : Version) (cs : List ConRow) (rest : List RawLine) → AreLines (cons_then v cs rest) → Both (Each ConSpelled cs) (AreLines rest)
cons_spelled v [] rest h = record { one = tt; other = h }
cons_spelled v (c ∷ cs) rest h = let r = cons_spelled v cs rest h.1 in record { one = (con_spelled v c h.0, r.one); other = r.other }

sorts_spelled : (v : Version) (ss : List SortRow) (rest : List RawLine) → AreLines (sorts_then v ss rest) → Both (Each SortSpelled ss) (AreLines rest)
sorts_spelled v [] rest h = record { one = tt; other = h }
sorts_spelled v (s ∷ ss) rest h =
    let c = cons_spelled v s.cons (sorts_then v ss rest) h.1 in
    let r = sorts_spelled v ss rest c.other in
    record { one = (record { name = sort_spelled v s h.0; cons = c.one }, r.one); other = r.other }

cases_spelled : (cs : List CaseRow) (rest : List RawLine) → AreLines (cases_then cs rest) → Both (Each (λ (c : CaseRow). HasSize c.body) cs) (AreLines rest)
cases_spelled [] rest h = record { one = tt; other = h }
cases_spelled (c ∷ cs) rest h = let r = cases_spelled cs rest h.1 in record { one = (term_size BodyPlace c.body h.0.1, r.one); other = r.other }

rules_spelled : (r : Rules) (rest : List RawLine) → AreLines (rules_then r rest) → Both (RulesSpelled r) (AreLines rest)
rules_spelled (single t) rest h = record { one = term_size BodyPlace t h.0; other = h.1 }
rules_spelled (matching n cs) rest h = cases_spelled cs rest h.1

funs_spelled : (v : Version) (fs : List FunRow) (rest : List RawLine) → AreLines (funs_then v fs rest) → Both (Each FunSpelled fs) (AreLines rest)
funs_spelled v [] rest h = record { one = tt; other = h }
funs_spelled v (r ∷ fs) rest h =
    let c = rules_spelled r.rules (funs_then v fs rest) h.1 in
    let m = funs_spelled v fs rest c.other in
    record { one = (fun_spelled v r h.0 c.one, m.one); other = m.other }

sides_spelled : (es : List SidesRow) (rest : List RawLine) → AreLines (background_then es rest) → Both (Each SidesSpelled es) (AreLines rest)
sides_spelled [] rest h = record { one = tt; other = h }
sides_spelled (e ∷ es) rest h =
    let r = sides_spelled es rest h.1 in
    record { one = (record { left = term_size Equation e.left h.0.0; right = term_size Equation e.right h.0.1 }, r.one); other = r.other }

values_sizes : (ts : List RawTerm) → AreValues Kept ts → Each HasSize ts
values_sizes [] h = tt
values_sizes (t ∷ ts) h = (term_size Value t h.0, values_sizes ts h.1)

rows_spelled : (vs : List ValuesRow) (rest : List RawLine) → AreLines (values_then vs rest) → Both (Each RowSpelled vs) (AreLines rest)
rows_spelled [] rest h = record { one = tt; other = h }
rows_spelled (v ∷ vs) rest h = let r = rows_spelled vs rest h.1 in record { one = (values_sizes v.values h.0.2, r.one); other = r.other }

pools_spelled : (ps : List (List ValuesRow)) (rest : List RawLine) → AreLines (pools_then ps rest) → Each (Each RowSpelled) ps
pools_spelled [] rest h = tt
pools_spelled (p ∷ ps) rest h = let r = rows_spelled p (pools_then ps rest) h.1 in (r.one, pools_spelled ps rest r.other)

pub record AllSpelled (l : Layout) : Type 0 where
  pub sorts : Each SortSpelled l.sorts
  pub funs : Each FunSpelled l.funs
  pub background : Each SidesSpelled l.background
  pub ends : EndsSpelled l.pools

start_spelled : (v : Version) (size budget pairs : ℕ) (ps : PoolRows) (rest : List RawLine) → AreLines (start_then v size budget pairs ps rest)
    → Both (IsLine Kept (rule_line ps)) (AreLines rest)
start_spelled (first vars width) size budget pairs ps rest h = record { one = h.1.1.1.1.1.1.0; other = h.1.1.1.1.1.1.1 }
start_spelled second size budget pairs ps rest h = record { one = h.1.1.1.1.0; other = h.1.1.1.1.1 }
start_spelled third size budget pairs ps rest h = record { one = h.1.1.1.1.0; other = h.1.1.1.1.1 }

pub all_spelled : (l : Layout) → AreLines (layout_lines l) → AllSpelled l
all_spelled l h =
    let s = start_spelled l.version l.size l.budget l.pairs l.pools (declared_lines l) h in
    let a = sorts_spelled l.version l.sorts (funs_then l.version l.funs (tail_lines l)) s.other in
    let f = funs_spelled l.version l.funs (tail_lines l) a.other in
    let e = sides_spelled l.background (pool_lines l.pools) f.other.1 in
    record { sorts = a.one; funs = f.one; background = e.one; ends = ends l.pools s.one e.other }
  where
    ends : (ps : PoolRows) → IsLine Kept (rule_line ps) → AreLines (pool_lines ps) → EndsSpelled ps
    ends (given ps) r k = pools_spelled ps (pool_lines (seeded 0 0 0)) k
    ends (seeded s h' c) r k = r.0
