-- Bytes put into an output: one after the other they stand as if they had been put at once.
use mathlib.Core.Path.{◌≡◌, refl, sym, ap, ap₂, subst, ◌∙◌}
use mathlib.Core.List.{List, [], ◌∷◌, ◌++◌, append-nil, append_assoc}
use Prim.Native.Nat.{ℕ, suc, ◌+◌, ◌-◌, ◌≤◌, ◌<◌, min}
use native.Mathlib.Omega.{arith, min_cases}
use lib.ListN.{length, length-append, take, drop, set, length-set, drop_of_length-le}
use lib.Seq.{set_out, take-suc-set}
use Rattle.std.proofs.lemmas.List.{drop-drop, drop-set-lt, take-append-drop, length-take-le}
use Rattle.wording.specs.Writing.{digit_of, decimal, put_over, Puts, Writes}
use Rattle.wording.specs.declared.writing.Output.{Output}
use Rattle.wording.proofs.Digits.{decimal_one}

pub put_length : (out : List ℕ) (at : ℕ) (s : List ℕ) → length (put_over out at s) ≡ length out
unfolding put_over
put_length out at [] = refl
put_length out at (b ∷ s) = put_length (set out at b) (suc at) s ∙ length-set out at b

-- behind the output's end nothing is put
pub put_behind : (out : List ℕ) (at : ℕ) (s : List ℕ) → length out ≤ at → put_over out at s ≡ out
unfolding put_over
put_behind out at [] h = refl
put_behind out at (b ∷ s) h =
    let same : set out at b ≡ out = set_out out at b h in
    put_behind (set out at b) (suc at) s (rw same (omega (arith, h))) ∙ same

pub put_append : (out : List ℕ) (at : ℕ) (s t : List ℕ) → put_over out at (s ++ t) ≡ put_over (put_over out at s) (at + length s) t
unfolding put_over
put_append out at [] t = ap (λ (k : ℕ). put_over out k t) (omega arith)
put_append out at (b ∷ s) t =
    put_append (set out at b) (suc at) s t
    ∙ ap (λ (k : ℕ). put_over (put_over (set out at b) (suc at) s) k t) (omega arith)

-- a place that is cut down to the output's end
pub put_cut : (out : List ℕ) (at : ℕ) (s : List ℕ) → put_over out (min at (length out)) s ≡ put_over out at s
put_cut out at s =
    min_cases at (length out) (put_over out (min at (length out)) s ≡ put_over out at s)
    (λ _ e. rw e refl)
    (λ h e. rw e (put_behind out (length out) s (omega arith) ∙ sym (put_behind out at s h)))

-- nothing is put
pub puts_nothing : (out : List ℕ) (at : ℕ) → Puts out at [] (min at (length out)) out
unfolding put_over
puts_nothing out at = record { output = refl; place = omega arith }

-- more is put, from where the first ended
pub puts_more : {out mid after : List ℕ} {at k k' : ℕ} {s t : List ℕ} → Puts out at s k mid → Puts mid k t k' after
    → Puts out at (s ++ t) k' after
puts_more {out = out} {mid = mid} {at = at} {k = k} {s = s} {t = t} h g =
    let long : length mid ≡ length out = ap length h.output ∙ put_length out at s in
    let where-mid : k ≡ min (at + length s) (length mid) = rw long h.place in
    let both : length (s ++ t) ≡ length s + length t = length-append s t in
    record {
      output =
          g.output
          ∙ ap (λ (j : ℕ). put_over mid j t) where-mid
          ∙ put_cut mid (at + length s) t
          ∙ ap (λ (o : List ℕ). put_over o (at + length s) t) h.output
          ∙ sym (put_append out at s t);
      place = omega (arith, g.place, h.place, long, both);
    }

-- the output keeps its length
pub puts_length : {out after : List ℕ} {at k : ℕ} {s : List ℕ} → Puts out at s k after → length after ≡ length out
puts_length {out = out} {at = at} {s = s} h = ap length h.output ∙ put_length out at s

-- nothing is written
pub writes_nothing : (o : Output) → o.at ≤ length o.bytes.now → Writes o [] o
unfolding put_over
writes_nothing o within = record { puts = record { output = refl; place = omega arith }; same_lent = refl }

-- the place is within the output
pub writes_within : {o p : Output} {s : List ℕ} → Writes o s p → p.at ≤ length p.bytes.now
writes_within h = let long = puts_length h.puts in omega (arith, long, h.puts.place)

-- more is written, from where the first ended
pub writes_more : {o p q : Output} {s t : List ℕ} → Writes o s p → Writes p t q → Writes o (s ++ t) q
writes_more h g = record { puts = puts_more h.puts g.puts; same_lent = g.same_lent ∙ h.same_lent }

-- the bytes in other words
pub writes_as : {o p : Output} {s t : List ℕ} → s ≡ t → Writes o s p → Writes o t p
writes_as {o = o} {p = p} e h = subst (λ x. Writes o x p) e h

-- a number of one digit
pub one_digit_printed : (n d : ℕ) → n < 10 → d ≡ digit_of n → decimal n ≡ d ∷ []
one_digit_printed n d small is = rw is (decimal_one n small)

-- bytes that have room stand where they were put, behind what stood there before
put_stands : (out : List ℕ) (at : ℕ) (s : List ℕ) → at + length s ≤ length out
    → take (at + length s) (put_over out at s) ≡ take at out ++ s
unfolding put_over
put_stands out at [] h = let none : at + 0 ≡ at = omega arith in rw none (sym (append-nil (take at out)))
put_stands out at (b ∷ s) h =
    let count : at + suc (length s) ≡ suc at + length s = omega arith in
    let room = length-set out at b in
    rw count
    (put_stands (set out at b) (suc at) s (omega (arith, h, room))
    ∙ ap (λ front. front ++ s) (take-suc-set out at b (omega (arith, h)))
    ∙ append_assoc (take at out) (b ∷ []) s)

pub put_in_front : (out s : List ℕ) → length s ≤ length out → take (length s) (put_over out 0 s) ≡ s
put_in_front out s h =
    let count : 0 + length s ≡ length s = omega arith in rw count at (put_stands out 0 s (omega (arith, h)))

-- what stands behind the bytes stays
put_leaves : (out : List ℕ) (at : ℕ) (s : List ℕ) → drop (at + length s) (put_over out at s) ≡ drop (at + length s) out
unfolding put_over
put_leaves out at [] = refl
put_leaves out at (b ∷ s) =
    let count : at + suc (length s) ≡ suc at + length s = omega arith in
    rw count (put_leaves (set out at b) (suc at) s ∙ drop-set-lt (suc at + length s) out at b (omega arith))

put_fitting : (out : List ℕ) (at : ℕ) (s : List ℕ) → at + length s ≤ length out
    → put_over out at s ≡ take at out ++ (s ++ drop (length s) (drop at out))
put_fitting out at s h =
    sym (take-append-drop (at + length s) (put_over out at s))
    ∙ ap₂ (λ front rest. front ++ rest) (put_stands out at s h) (put_leaves out at s ∙ sym (drop-drop (length s) at out))
    ∙ append_assoc (take at out) s (drop (length s) (drop at out))

-- as many bytes as fit are put at once, from a place in the output
put_at_once : (out s : List ℕ) (at n : ℕ) → at ≤ length out → n ≡ min (length s) (length out - at)
    → put_over out at s ≡ take at out ++ (take n s ++ drop n (drop at out))
unfolding put_over
put_at_once out s at n inside is =
    let long : length (take n s) ≡ n = length-take-le n s (omega (arith, is)) in
    let whole : put_over out at s ≡ put_over (put_over out at (take n s)) (at + n) (drop n s) =
    rw (take-append-drop n s, long) at (put_append out at (take n s) (drop n s)) in
    let kept : length (put_over out at (take n s)) ≡ length out = put_length out at (take n s) in
    let behind : put_over (put_over out at (take n s)) (at + n) (drop n s) ≡ put_over out at (take n s) =
    min_cases (length s) (length out - at) _
    (λ h e. let none : drop n s ≡ [] = drop_of_length-le s (omega (arith, is, e)) in rw none refl)
    (λ h e. put_behind (put_over out at (take n s)) (at + n) (drop n s) (omega (arith, is, e, inside, kept)))
    in
    whole ∙ behind ∙ rw long at (put_fitting out at (take n s) (omega (arith, long, is, inside)))

pub puts_at_once : (out s part : List ℕ) (at from n k : ℕ) → from ≡ min at (length out) → n ≡ min (length s) (length out - from)
    → k ≡ n → part ≡ take n s → Puts out at s (from + n) (take from out ++ (part ++ drop k (drop from out)))
puts_at_once out s part at from n k from-is n-is k-is part-is =
    record {
      output =
          rw (k-is, part-is) (sym (put_at_once out s from n (omega (arith, from-is)) n-is))
          ∙ ap (λ (j : ℕ). put_over out j s) from-is
          ∙ put_cut out at s;
      place = omega (arith, from-is, n-is);
    }
