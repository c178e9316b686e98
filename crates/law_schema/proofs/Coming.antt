-- The next schema, as the code finds it.
use Rattle.std.proofs.Common.{◌≡◌, List, Option, Some, None, false, sym, subst}
use Rattle.std.specs.Prelude.{Vec}
use Rattle.std.specs.declared.alloc.Global.{Global}
use denote.Bor.{Bor}
use Rattle.law_sig.specs.Order.{IsBefore}
use Rattle.law_sig.specs.Expected.{IsFirstAbove}
use Rattle.law_sig.specs.Schemas.{IsConsidered}
use Rattle.law_sig.specs.declared.tree.Tree.{Tree}
use Rattle.law_sig.specs.declared.parts.SigParts.{SigParts}
use Rattle.law_bank.specs.declared.node.Node.{Node}
use Rattle.law_bank.specs.Terms.{tree_of}
use Rattle.law_bank.specs.Bank.{Terms, AllOf}
use Rattle.law_schema.specs.declared.stock.Entry.{Entry}
use Rattle.law_schema.specs.declared.places.Place.{Place}
use Rattle.law_schema.specs.declared.places.Ahead.{Ahead}
use Rattle.law_schema.specs.declared.places.Ahead.TheVariants as ahead
use Rattle.law_schema.specs.declared.schemas.Turn.TheVariants as turn
use Rattle.law_schema.specs.declared.schemas.Schemas.TheInside.{Inside}
use Rattle.law_schema.specs.Rules.{AreRules}
use Rattle.law_schema.specs.Course.{Course, given, tree_in, GivesSchema}
use Rattle.law_schema.specs.Columns.{columns_of}
use Rattle.law_schema.specs.Spreads.{schema_trees}
use Rattle.law_schema.specs.Places.{IsAt, IsAhead, IsStanding, IsStocked, IsConsideredAt, IsFirstAhead, GoesAhead, AllFiled}
use Rattle.law_schema.specs.Inside.{course_in, IsSound}
use Rattle.law_schema.proofs.Sounding.{reached_considered}
use Rattle.law_schema.proofs.Calls.{next_sound, all_filed}

-- by the names under which the code reads the columns
abbrev pub Read : Type 0
Read = List (Vec (List Entry) Global)

-- what is looked for
abbrev pub AheadFor : Inside → Read → Place → Ahead → Type 0
AheadFor s read p a = (parts : SigParts) (schemas : List Tree) (o : Option Tree) → AreRules parts s.rules → IsStocked parts schemas (columns_of read) → IsStanding s.rules (columns_of read) s.place o
    → IsConsideredAt parts schemas o → GoesAhead parts s.rules (columns_of read) schemas o p a

-- and what is found, for this signature
abbrev pub IsFirstFor : Inside → Read → Place → Type 0
IsFirstFor s read q = (parts : SigParts) → AreRules parts s.rules
    → IsFirstAhead parts s.rules (columns_of read) (IsConsidered parts (schema_trees s.spreads.items)) (given (tree_in s.schema)) q

goes : (s : Inside) → IsSound s → (read : Read) → read ≡ s.columns.items → (p : Place) (a : Ahead) → AheadFor s read p a → (parts : SigParts) → AreRules parts s.rules
    → GoesAhead parts s.rules (columns_of read) (schema_trees s.spreads.items) (tree_in s.schema) p a
goes s is read e p a found parts are =
    let r = is.right parts are in
    found parts (schema_trees s.spreads.items) (tree_in s.schema) are (subst (λ (l : Read). IsStocked parts (schema_trees s.spreads.items) (columns_of l)) (sym e) r.stocked)
    (subst (λ (l : Read). IsStanding s.rules (columns_of l) s.place (tree_in s.schema)) (sym e) is.standing) (reached_considered parts (schema_trees s.spreads.items) s.turn (tree_in s.schema) r.reached)

pub beside_first : (s : Inside) → IsSound s → (read : Read) → read ≡ s.columns.items → (p : Place) (a : Ahead) → a ≡ ahead.Beside → AheadFor s read p a → IsFirstFor s read p
beside_first s is read e p a a_is found parts are = subst (GoesAhead parts s.rules (columns_of read) (schema_trees s.spreads.items) (tree_in s.schema) p) a_is (goes s is read e p a found parts are)

pub at_first : (s : Inside) → IsSound s → (read : Read) → read ≡ s.columns.items → (p : Place) (a : Ahead) (q : Place) → a ≡ ahead.At q → AheadFor s read p a → IsFirstFor s read q
at_first s is read e p a q a_is found parts are = subst (GoesAhead parts s.rules (columns_of read) (schema_trees s.spreads.items) (tree_in s.schema) p) a_is (goes s is read e p a found parts are)

pub none_next : (s : Inside) → IsSound s → (read : Read) → read ≡ s.columns.items → (p : Place) (a : Ahead) → a ≡ ahead.Spent → AheadFor s read p a → (v : Course) → course_in s ≡ v
    → (parts : SigParts) → AreRules parts v.rules → GivesSchema parts v None
none_next s is read e p a a_is found v v_is =
    subst (λ (z : Course). (parts : SigParts) → AreRules parts z.rules → GivesSchema parts z None) v_is
    (λ parts are. subst (GoesAhead parts s.rules (columns_of read) (schema_trees s.spreads.items) (tree_in s.schema) p) a_is (goes s is read e p a found parts are))

pub is_ahead : (s : Inside) → IsSound s → (read : Read) (q : Place) → IsFirstFor s read q → (t : Tree) × IsAhead s.rules (columns_of read) q t
is_ahead s is read q first = let (t, t_is, f) = first is.signature is.rules_are in (t, t_is)

pub filed_known : (s : Inside) → IsSound s → (v : Course) → course_in s ≡ v → (read : Read) → read ≡ s.columns.items → (bank : Terms) → AllOf bank v.spreads → AllFiled bank (columns_of read)
filed_known s is v v_is read e bank all =
    subst (λ (l : Read). AllFiled bank (columns_of l)) (sym e) (all_filed bank s.spreads.items (columns_of s.columns.items) is.linked (subst (λ (z : Course). AllOf bank z.spreads) (sym v_is) all))

pub next_known : (s : Inside) → IsSound s → (read : Read) → read ≡ s.columns.items → (q : Place) → IsFirstFor s read q → (p : Place) (b : Bor Node) → ((t : Tree) → IsAhead s.rules (columns_of read) q t → tree_of b.now ≡ t)
    → ((t : Tree) → IsAhead s.rules (columns_of read) q t → IsAt s.rules (columns_of read) p t) → IsSound (record s { place = p; schema = Some b; turn = turn.Given; term = None; live = false })
next_known s is read e q first p b tree go =
    let (t, t_is) = is_ahead s is read q first in
    next_sound s is p b (subst (λ (l : Read). IsAt s.rules (columns_of l) p (tree_of b.now)) e (subst (IsAt s.rules (columns_of read) p) (sym (tree t t_is)) (go t t_is)))
    (λ parts are. let (u, u_is, f) = first parts are in subst (IsFirstAbove (IsBefore parts) (IsConsidered parts (schema_trees s.spreads.items)) (given (tree_in s.schema))) (sym (tree u u_is)) f)

pub gives_next : (s : Inside) (v : Course) → course_in s ≡ v → (read : Read) (q : Place) → IsFirstFor s read q → (b : Bor Node) → ((t : Tree) → IsAhead s.rules (columns_of read) q t → tree_of b.now ≡ t)
    → (parts : SigParts) → AreRules parts v.rules → GivesSchema parts v (Some b)
gives_next s v v_is read q first b tree =
    subst (λ (z : Course). (parts : SigParts) → AreRules parts z.rules → GivesSchema parts z (Some b)) v_is
    (λ parts are. let (u, u_is, f) = first parts are in subst (IsFirstAbove (IsBefore parts) (IsConsidered parts (schema_trees s.spreads.items)) (given (tree_in s.schema))) (sym (tree u u_is)) f)
