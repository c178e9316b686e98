-- What a certificate that is played keeps ready.
use Rattle.std.proofs.Common.{◌≡◌, List, [], ◌∷◌, ◌++◌, Option, Some, None, Result, Ok, Err, IfOk, sym, ap, ◌∙◌, subst}
use Rattle.std.specs.Option.{MatchOption}
use denote.Bor.{Bor}
use Rattle.law_bank.specs.declared.node.Node.{Node}
use Rattle.law_bank.specs.Bank.{Terms, IsOf, AllOf, Grows}
use Rattle.law_bank.proofs.BankFacts.{all_stay}
use Rattle.law_schema.specs.Course.{Course, after_next, after_spread, after_kill, after_instance, after_admit}
use Rattle.law_acceptance.specs.Playing.{IsReady}

pub if_any : {T E : Type 0} (P : Type 0) (r : Result T E) → P → IfOk r (λ x. P)
if_any P (Ok x) p = p
if_any P (Err e) p = tt

one_more : (bank : Terms) (ts : List (Bor Node)) (b : Bor Node) → AllOf bank ts → IsOf bank b.now → AllOf bank (ts ++ b ∷ [])
one_more bank [] b all one = (one, tt)
one_more bank (t ∷ ts) b all one = (all.0, one_more bank ts b all.1 one)

-- a schema that comes, and is spread or killed

pub no_schema : (old new : Terms) (v w : Course) (r : Option (Bor Node)) → Grows old new → w ≡ after_next v r → r ≡ None → IsReady old v → IsReady new w
no_schema old new v w r grows w_is none is =
    subst (IsReady new) (sym (w_is ∙ ap (after_next v) none)) (record { spreads = all_stay old new v.spreads grows is.spreads; lives = all_stay old new v.lives grows is.lives; settled = is.settled })

pub spread_ready : (old new : Terms) (v w u : Course) (r : Option (Bor Node)) (b : Bor Node) → Grows old new → w ≡ after_next v r → r ≡ Some b → MatchOption r (Unit {0}) (λ (z : Bor Node). IsOf new z.now)
    → u ≡ after_spread w → IsReady old v → IsReady new u
spread_ready old new v w u r b grows w_is some held u_is is =
    subst (IsReady new) (sym (u_is ∙ ap after_spread (w_is ∙ ap (after_next v) some))) (record {
      spreads = one_more new v.spreads b (all_stay old new v.spreads grows is.spreads) (subst (λ o. MatchOption o (Unit {0}) (λ (z : Bor Node). IsOf new z.now)) some held);
      lives = all_stay old new v.lives grows is.lives;
      settled = λ e. cc e;
    })

pub kill_ready : (old new : Terms) (v w u : Course) (r : Option (Bor Node)) (b : Bor Node) → Grows old new → w ≡ after_next v r → r ≡ Some b → u ≡ after_kill w → IsReady old v → IsReady new u
kill_ready old new v w u r b grows w_is some u_is is =
    subst (IsReady new) (sym (u_is ∙ ap after_kill (w_is ∙ ap (after_next v) some))) (record {
      spreads = all_stay old new v.spreads grows is.spreads;
      lives = all_stay old new v.lives grows is.lives;
      settled = λ e. cc e;
    })

-- an instance that comes, and is live or not

pub no_instance : (old new : Terms) (v w : Course) (r : Option (Bor Node)) → Grows old new → w ≡ after_instance v r → r ≡ None → IsReady old v → IsReady new w
no_instance old new v w r grows w_is none is =
    subst (IsReady new) (sym (w_is ∙ ap (after_instance v) none)) (record { spreads = all_stay old new v.spreads grows is.spreads; lives = all_stay old new v.lives grows is.lives; settled = is.settled })

pub moved_ready : (old new : Terms) (v w u : Course) (r : Option (Bor Node)) (b : Bor Node) → Grows old new → w ≡ after_instance v r → r ≡ Some b → u ≡ w → IsReady old v → IsReady new u
moved_ready old new v w u r b grows w_is some u_is is =
    subst (IsReady new) (sym (u_is ∙ w_is ∙ ap (after_instance v) some)) (record { spreads = all_stay old new v.spreads grows is.spreads; lives = all_stay old new v.lives grows is.lives; settled = is.settled })

pub live_ready : (old new : Terms) (v w u : Course) (r : Option (Bor Node)) (b : Bor Node) → Grows old new → w ≡ after_instance v r → r ≡ Some b → MatchOption r (Unit {0}) (λ (z : Bor Node). IsOf new z.now)
    → u ≡ after_admit w b → IsReady old v → IsReady new u
live_ready old new v w u r b grows w_is some held u_is is =
    subst (IsReady new) (sym (u_is ∙ ap (λ z. after_admit z b) (w_is ∙ ap (after_instance v) some))) (record {
      spreads = all_stay old new v.spreads grows is.spreads;
      lives = one_more new v.lives b (all_stay old new v.lives grows is.lives) (subst (λ o. MatchOption o (Unit {0}) (λ (z : Bor Node). IsOf new z.now)) some held);
      settled = is.settled;
    })

-- a bank that grew, and nothing else

pub stay_ready : (old new : Terms) (v : Course) → Grows old new → IsReady old v → IsReady new v
stay_ready old new v grows is = record { spreads = all_stay old new v.spreads grows is.spreads; lives = all_stay old new v.lives grows is.lives; settled = is.settled }

pub end_held : (old new bank : Terms) (v w u : Course) (r : Option (Bor Node)) → Grows old new → w ≡ after_instance v r → bank ≡ new → u ≡ w → IsReady old v → AllOf bank u.spreads
end_held old new bank v w u r grows w_is bank_is u_is is = subst (λ b. AllOf b u.spreads) (sym bank_is) (subst (λ (z : Course). AllOf new z.spreads) (sym (u_is ∙ w_is)) (by r))
  where
    by : (r : Option (Bor Node)) → AllOf new (after_instance v r).spreads
    by None = all_stay old new v.spreads grows is.spreads
    by (Some b) = all_stay old new v.spreads grows is.spreads

pub same_held : (old bank : Terms) (v u : Course) → bank ≡ old → u ≡ v → IsReady old v → AllOf bank u.spreads
same_held old bank v u bank_is u_is is = subst (λ b. AllOf b u.spreads) (sym bank_is) (subst (λ (z : Course). AllOf old z.spreads) (sym u_is) is.spreads)
