-- Each step leads to a state that ends alike.
use Rattle.std.proofs.Common.{◌≡◌, ℕ, ◌+◌, List, [], ◌∷◌, ◌++◌, length, Some, refl, sym, ap, subst, ◌∙◌, arith, append-nil, append_assoc}
use Rattle.law_sig.specs.Relation.{Named, Gives}
use Rattle.law_sig.specs.Relation.Gives.{make, call}
use Rattle.law_sig.specs.Relation.GiveAll.{none, more}
use Rattle.law_sig.specs.Relation.Applies.{built, ran}
use Rattle.law_sig.specs.Signature.{symbol_at}
use Rattle.law_sig.specs.Evaluate.{Chosen, chosen}
use Rattle.law_sig.specs.declared.parts.Con.{Con}
use Rattle.law_sig.specs.declared.parts.Fun.{Fun}
use Rattle.law_sig.specs.declared.parts.Sym.TheVariants as sym_is
use Rattle.law_sig.specs.declared.tree.SymId.{SymId}
use Rattle.law_sig.specs.declared.tree.Tree.{Tree}
use Rattle.law_sig.specs.declared.tree.Tree.TheVariants.{App}
use Rattle.law_sig.specs.declared.tree.Body.{Body}
use Rattle.law_sig.specs.declared.tree.Body.TheOpen as b
use Rattle.law_sig.specs.declared.tree.Body.TheViews.{out-Body}
use Rattle.law_sig.specs.declared.parts.SigParts.{SigParts}
use Rattle.law_eval.specs.Work.{Todo}
use Rattle.law_eval.specs.Work.Todo.{eval, each, build, apply, leave}
use Rattle.law_eval.specs.Runs.{State, Finishes, Steps}
use Rattle.law_eval.proofs.Parts.{make_parts, call_parts, none_parts, more_parts, ran_parts, built_parts, all_given}

abbrev pub state : List Todo → List (List Tree) → List Named → ℕ → State
state tasks rows named left = record { tasks = tasks; rows = rows; named = named; left = left }

-- a body that gives one value, at no cost
pub value_step : (parts : SigParts) (tasks : List Todo) (row : List Tree) (rows : List (List Tree)) (n : Named) (named : List Named) (left : ℕ) (body : Body) (w : Tree)
    → Gives parts n body w 0 → ((v : Tree) (c : ℕ) → Gives parts n body v c → (v ≡ w) × (c ≡ 0))
    → Steps parts (state (eval body ∷ tasks) (row ∷ rows) (n ∷ named) left) (state tasks ((row ++ w ∷ []) ∷ rows) (n ∷ named) left)
value_step parts tasks row rows n named left body w gives only = record {
  spent = 0;
  pays = omega arith;
  on = λ v c e. let is = only e.given e.spent e.gives in
      (e.later, subst (λ x. Finishes parts v tasks ((row ++ x ∷ []) ∷ rows) (n ∷ named) e.later) is.0 e.ends, omega (arith, e.sum, is.1));
  back = λ v g e. record { given = w; spent = 0; later = g; gives = gives; ends = e; sum = omega arith };
}

-- a making: its arguments are evaluated into a row of their own, which the constructor then takes
pub make_step : (parts : SigParts) (tasks : List Todo) (rows : List (List Tree)) (named : List Named) (left : ℕ) (body : Body) (f : SymId) (args : List Body)
    → out-Body body ≡ b.Make f args
    → Steps parts (state (eval body ∷ tasks) rows named left) (state (each args ∷ build f (length args) ∷ tasks) ([] ∷ rows) named left)
make_step parts tasks rows named left body f args o = record {
  spent = 0;
  pays = omega arith;
  on = λ v c e. on rows named v c e;
  back = λ v g e. back rows named v g e;
}
  where
    on : (rows : List (List Tree)) (named : List Named) (v : Tree) (c : ℕ) → Finishes parts v (eval body ∷ tasks) rows named c
        → (later : ℕ) × Finishes parts v (each args ∷ build f (length args) ∷ tasks) ([] ∷ rows) named later × (c ≡ later + 0)
    on [] named v c e = absurd e
    on (row ∷ rows) [] v c e = absurd e
    on (row ∷ rows) (n ∷ named) v c e =
        let p = make_parts parts f args o e.gives in (
          c,
          record {
            given = p.values;
            spent = p.spent;
            later = e.later + 1;
            gives = p.all;
            ends = (
              all_given parts p.all,
              record {
                given = App f p.values;
                spent = 1;
                later = e.later;
                gives = record { value = refl; one = refl };
                ends = subst (λ x. Finishes parts v tasks ((row ++ x ∷ []) ∷ rows) (n ∷ named) e.later) p.value e.ends;
                sum = omega arith;
              },
            );
            sum = omega (arith, e.sum, p.cost);
          },
          omega arith,
        )

    back : (rows : List (List Tree)) (named : List Named) (v : Tree) (g : ℕ) → Finishes parts v (each args ∷ build f (length args) ∷ tasks) ([] ∷ rows) named g
        → Finishes parts v (eval body ∷ tasks) rows named (g + 0)
    back rows [] v g e = absurd e
    back [] (n ∷ named) v g e = absurd e.ends
    back (row ∷ rows) (n ∷ named) v g e =
        let t = e.ends.1 in
        record {
          given = t.given;
          spent = e.spent + 1;
          later = t.later;
          gives = make n body t.given (e.spent + 1) f args e.given e.spent o e.gives t.gives.value refl;
          ends = t.ends;
          sum = omega (arith, e.sum, t.sum, t.gives.one);
        }

-- a call: its arguments are evaluated into a row of their own, to which the symbol is then applied
pub call_step : (parts : SigParts) (tasks : List Todo) (rows : List (List Tree)) (named : List Named) (left : ℕ) (body : Body) (f : SymId) (args : List Body)
    → out-Body body ≡ b.Call f args
    → Steps parts (state (eval body ∷ tasks) rows named left) (state (each args ∷ apply f (length args) ∷ tasks) ([] ∷ rows) named left)
call_step parts tasks rows named left body f args o = record {
  spent = 0;
  pays = omega arith;
  on = λ v c e. on rows named v c e;
  back = λ v g e. back rows named v g e;
}
  where
    on : (rows : List (List Tree)) (named : List Named) (v : Tree) (c : ℕ) → Finishes parts v (eval body ∷ tasks) rows named c
        → (later : ℕ) × Finishes parts v (each args ∷ apply f (length args) ∷ tasks) ([] ∷ rows) named later × (c ≡ later + 0)
    on [] named v c e = absurd e
    on (row ∷ rows) [] v c e = absurd e
    on (row ∷ rows) (n ∷ named) v c e =
        let p = call_parts parts f args o e.gives in (
          c,
          record {
            given = p.values;
            spent = p.spent;
            later = p.applied + e.later;
            gives = p.all;
            ends = (all_given parts p.all, record { given = e.given; spent = p.applied; later = e.later; gives = p.one; ends = e.ends; sum = refl });
            sum = omega (arith, e.sum, p.cost);
          },
          omega arith,
        )

    back : (rows : List (List Tree)) (named : List Named) (v : Tree) (g : ℕ) → Finishes parts v (each args ∷ apply f (length args) ∷ tasks) ([] ∷ rows) named g
        → Finishes parts v (eval body ∷ tasks) rows named (g + 0)
    back rows [] v g e = absurd e
    back [] (n ∷ named) v g e = absurd e.ends
    back (row ∷ rows) (n ∷ named) v g e =
        let t = e.ends.1 in
        record {
          given = t.given;
          spent = e.spent + t.spent;
          later = t.later;
          gives = call n body t.given (e.spent + t.spent) f args e.given e.spent t.spent o e.gives t.gives refl;
          ends = t.ends;
          sum = omega (arith, e.sum, t.sum);
        }

-- no bodies are left
pub none_step : (parts : SigParts) (tasks : List Todo) (row : List Tree) (rows : List (List Tree)) (n : Named) (named : List Named) (left : ℕ)
    → Steps parts (state (each [] ∷ tasks) (row ∷ rows) (n ∷ named) left) (state tasks (row ∷ rows) (n ∷ named) left)
none_step parts tasks row rows n named left = record {
  spent = 0;
  pays = omega arith;
  on = λ v c e. let is = none_parts parts e.gives in
      (e.later, subst (λ x. Finishes parts v tasks (x ∷ rows) (n ∷ named) e.later) (ap (λ vs. row ++ vs) is.0 ∙ append-nil row) e.ends, omega (arith, e.sum, is.1));
  back = λ v g e. record {
    given = [];
    spent = 0;
    later = g;
    gives = none n;
    ends = subst (λ x. Finishes parts v tasks (x ∷ rows) (n ∷ named) g) (sym (append-nil row)) e;
    sum = omega arith;
  };
}

-- the first of the bodies, and then the others
pub more_step : (parts : SigParts) (tasks : List Todo) (row : List Tree) (rows : List (List Tree)) (n : Named) (named : List Named) (left : ℕ) (body : Body) (bodies : List Body)
    → Steps parts (state (each (body ∷ bodies) ∷ tasks) (row ∷ rows) (n ∷ named) left) (state (eval body ∷ each bodies ∷ tasks) (row ∷ rows) (n ∷ named) left)
more_step parts tasks row rows n named left body bodies = record {
  spent = 0;
  pays = omega arith;
  on = λ v c e. let p = more_parts parts e.gives in (
    c,
    record {
      given = p.value;
      spent = p.cost;
      later = p.spent + e.later;
      gives = p.first;
      ends = record {
        given = p.values;
        spent = p.spent;
        later = e.later;
        gives = p.others;
        ends = subst (λ x. Finishes parts v tasks (x ∷ rows) (n ∷ named) e.later) (ap (λ vs. row ++ vs) p.is ∙ sym (append_assoc row (p.value ∷ []) p.values)) e.ends;
        sum = refl;
      };
      sum = omega (arith, e.sum, p.sum);
    },
    omega arith,
  );
  back = λ v g e. record {
    given = e.given ∷ e.ends.given;
    spent = e.spent + e.ends.spent;
    later = e.ends.later;
    gives = more n body bodies e.given e.ends.given e.spent e.ends.spent (e.spent + e.ends.spent) e.gives e.ends.gives refl;
    ends = subst (λ x. Finishes parts v tasks (x ∷ rows) (n ∷ named) e.ends.later) (append_assoc row (e.given ∷ []) e.ends.given) e.ends.ends;
    sum = omega (arith, e.sum, e.ends.sum);
  };
}

-- a constructor takes a row
pub build_step : (parts : SigParts) (tasks : List Todo) (row below : List Tree) (rows : List (List Tree)) (named : List Named) (left : ℕ) (f : SymId) (count : ℕ) → length row ≡ count
    → Steps parts (state (build f count ∷ tasks) (row ∷ below ∷ rows) named (left + 1)) (state tasks ((below ++ App f row ∷ []) ∷ rows) named left)
build_step parts tasks row below rows named left f count fits = record {
  spent = 1;
  pays = refl;
  on = λ v c e. (e.1.later, subst (λ x. Finishes parts v tasks ((below ++ x ∷ []) ∷ rows) named e.1.later) e.1.gives.value e.1.ends, omega (arith, e.1.sum, e.1.gives.one));
  back = λ v g e. (fits, record { given = App f row; spent = 1; later = g; gives = record { value = refl; one = refl }; ends = e; sum = omega arith });
}

-- a constructor is applied to a row
pub con_step : (parts : SigParts) (tasks : List Todo) (row below : List Tree) (rows : List (List Tree)) (named : List Named) (left : ℕ) (f : SymId) (count : ℕ) (con : Con)
    → symbol_at parts f ≡ Some (sym_is.Con con) → length row ≡ count
    → Steps parts (state (apply f count ∷ tasks) (row ∷ below ∷ rows) named (left + 1)) (state tasks ((below ++ App f row ∷ []) ∷ rows) named left)
con_step parts tasks row below rows named left f count con declared fits = record {
  spent = 1;
  pays = refl;
  on = λ v c e. let is = built_parts parts con declared e.1.gives in
      (e.1.later, subst (λ x. Finishes parts v tasks ((below ++ x ∷ []) ∷ rows) named e.1.later) is.0 e.1.ends, omega (arith, e.1.sum, is.1));
  back = λ v g e. (fits, record { given = App f row; spent = 1; later = g; gives = built f row (App f row) 1 con declared refl refl; ends = e; sum = omega arith });
}

-- a function is applied to a row: its body is evaluated
pub enter_step : (parts : SigParts) (tasks : List Todo) (row : List Tree) (rows : List (List Tree)) (named : List Named) (left : ℕ) (f : SymId) (count : ℕ) (fun : Fun) (ch : Chosen)
    → symbol_at parts f ≡ Some (sym_is.Fun fun) → chosen parts fun row ≡ Some ch → length row ≡ count
    → Steps parts (state (apply f count ∷ tasks) (row ∷ rows) named (left + 1)) (state (eval ch.body ∷ leave ∷ tasks) rows (record { fields = ch.fields; params = row } ∷ named) left)
enter_step parts tasks row rows named left f count fun ch declared is fits = record {
  spent = 1;
  pays = refl;
  on = λ v c e. on rows v c e;
  back = λ v g e. back rows v g e;
}
  where
    on : (rows : List (List Tree)) (v : Tree) (c : ℕ) → Finishes parts v (apply f count ∷ tasks) (row ∷ rows) named c
        → (later : ℕ) × Finishes parts v (eval ch.body ∷ leave ∷ tasks) rows (record { fields = ch.fields; params = row } ∷ named) later × (c ≡ later + 1)
    on [] v c e = absurd e
    on (below ∷ rows) v c e =
        let p = ran_parts parts fun ch declared is e.1.gives in
        (p.spent + e.1.later, record { given = e.1.given; spent = p.spent; later = e.1.later; gives = p.gives; ends = e.1.ends; sum = refl }, omega (arith, e.1.sum, p.cost))

    back : (rows : List (List Tree)) (v : Tree) (g : ℕ) → Finishes parts v (eval ch.body ∷ leave ∷ tasks) rows (record { fields = ch.fields; params = row } ∷ named) g
        → Finishes parts v (apply f count ∷ tasks) (row ∷ rows) named (g + 1)
    back [] v g e = absurd e
    back (below ∷ rows) v g e = (
      fits,
      record {
        given = e.given;
        spent = 1 + e.spent;
        later = e.later;
        gives = ran f row e.given (1 + e.spent) fun ch e.spent declared is e.gives refl;
        ends = e.ends;
        sum = omega (arith, e.sum);
      },
    )

-- a function ends
pub leave_step : (parts : SigParts) (tasks : List Todo) (rows : List (List Tree)) (n : Named) (named : List Named) (left : ℕ)
    → Steps parts (state (leave ∷ tasks) rows (n ∷ named) left) (state tasks rows named left)
leave_step parts tasks rows n named left = record {
  spent = 0;
  pays = omega arith;
  on = λ v c e. (c, e, omega arith);
  back = λ v g e. subst (λ k. Finishes parts v tasks rows named k) (omega arith) e;
}
