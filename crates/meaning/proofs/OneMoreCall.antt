-- After all that was seen of what keeps demand 3, any call can be made: the calls made so far and this one are answered, those made so far as
-- they were, and the last exchange shows its call.
use mathlib.Core.Path.{◌≡◌, refl, sym, subst}
use mathlib.Core.List.{List, [], ◌∷◌, ◌++◌, map, map-eq-nil_iff, concat-ne-nil}
use Prim.Native.Nat.{ℕ}
use Rattle.meaning.specs.Names.{Name}
use Rattle.meaning.specs.Waiting.{Entry}
use Rattle.meaning.specs.Calls.{Call, Reply, AskReply, FinishReply, Exchange, call_in}
use Rattle.meaning.specs.Calls.Call.{ask, finish, withdraw}
use Rattle.meaning.specs.Calls.Exchange.{asked, finished, withdrew}
use Rattle.meaning.specs.Demand.{Demand3}

-- what a call can be told, and the exchange that it then is
abbrev pub ToldTo : Call → Type 0
ToldTo (ask t n) = Reply AskReply
ToldTo (finish t) = Reply FinishReply
ToldTo (withdraw t) = Reply ℕ

abbrev pub told : (c : Call) → ToldTo c → Exchange
told (ask t n) r = asked t n r
told (finish t) r = finished t r
told (withdraw t) r = withdrew t r

is_told : (x : Exchange) → (r : ToldTo (call_in x)) × (x ≡ told (call_in x) r)
is_told (asked t n r) = (r, refl)
is_told (finished t r) = (r, refl)
is_told (withdrew t r) = (r, refl)

-- where the calls are some and one more, so are the exchanges
last_call : (ys : List Exchange) (cs : List Call) (c : Call) → map call_in ys ≡ cs ++ c ∷ []
    → (xs : List Exchange) × (r : ToldTo c) × (ys ≡ xs ++ told c r ∷ []) × (map call_in xs ≡ cs)
last_call [] cs c q = absurd (concat-ne-nil c cs (sym q))
last_call (y ∷ ys) [] c q =
    let p : call_in y ≡ c = cc in
    let n : ys ≡ [] = (map-eq-nil_iff call_in).0 (cc) in
    let (r, e) = subst (λ d. (r : ToldTo d) × (y ≡ told d r)) p (is_told y) in
    ([], r, cc, refl)
last_call (y ∷ ys) (d ∷ cs) c q =
    let (xs, r, e, p) = last_call ys cs c cc in
    (y ∷ xs, r, cc, cc)

module _ {Seen : List Exchange → List Entry → Type 0} {Permitted : List Name → Type 0} {Known : Name → Type 0}
    (keeps : Demand3 Seen Permitted Known) where
  pub no_calls : (es : List Entry) × Seen [] es
  no_calls = let (xs, es, h, q) = keeps.all_answered [] in (es, subst (λ ys. Seen ys es) ((map-eq-nil_iff call_in).0 q) h)

  pub one_more_call : {xs : List Exchange} {es : List Entry} → Seen xs es → (c : Call)
      → (r : ToldTo c) × (after : List Entry) × Seen (xs ++ told c r ∷ []) after
  one_more_call {xs} {es} h c =
      let (ys, after, s, q) = keeps.all_answered (map call_in xs ++ c ∷ []) in
      let (zs, r, e, p) = last_call ys (map call_in xs) c q in
      let s' : Seen (zs ++ told c r ∷ []) after = subst (λ ws. Seen ws after) e s in
      let (before, b) = keeps.seen_before zs (told c r ∷ []) after s' in
      (r, after, subst (λ ws. Seen (ws ++ told c r ∷ []) after) (keeps.answered_alike zs xs before es b h p).0 s')
