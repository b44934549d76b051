-- What is asked of the entries in use, whatever the set and who runs: terminals below 64 and all different, operations that
-- exist. It stays so where an entry is taken out, since those that are left were there before, at different places; and where
-- an entry of another terminal is put behind them.
use mathlib.Core.Path.{◌≡◌}
use mathlib.Core.Bool.{false}
use mathlib.Core.List.{List}
use mathlib.Core.Logic.{◌≢◌, ◌⊎◌, inl, inr}
use Prim.Native.Nat.{ℕ, suc, ◌-◌, ◌<◌, ◌≤◌}
use native.Mathlib.Omega.{arith}
use lib.ListN.{length, get_or, set}
use lib.Seq.{get_or-set_same, get_or-set_other}
use Rattle.meaning.proofs.SetLaws.{below_or_not}
use Rattle.std.specs.Prelude.{Some, None}
use Rattle.standing.specs.declared.entries.Entry.{Entry}
use Rattle.standing.specs.declared.numbers.Terminal.{Terminal}
use Rattle.standing.specs.declared.records.Session.{Session}
use Rattle.standing.specs.Lists.{blank_entry, taken_out}
use Rattle.standing.specs.Soundness.{RecordSound, Sound, entry_in, terminal_in, operation_in, meets_set}
use Rattle.standing.proofs.EntryLaws.{taken_out_says}

-- of the first n entries, where there are that many names
pub record Listed (names n : ℕ) (l : List Entry) : Type 0 where
  pub below : (i : ℕ) → i < n → terminal_in l i < 64
  pub differ : (i j : ℕ) → i < n → j < n → terminal_in l i ≡ terminal_in l j → i ≡ j
  pub exist : (i : ℕ) → i < n → operation_in l i < names

pub listed : (s : Session) (l : List Entry) → Sound s l → Listed s.table.names s.waiting l
listed s l sound = record { below = sound.terminals_below; differ = sound.terminals_differ; exist = sound.operations_exist }

pub sound_by : (s : Session) (l : List Entry) → RecordSound s → Listed s.table.names s.waiting l
    → ((t : Terminal) → s.running ≡ Some t → (i : ℕ) → i < s.waiting → terminal_in l i ≢ t.0)
    → (s.running ≡ None → (i : ℕ) → i < s.waiting → meets_set s (operation_in l i) ≡ false)
    → Sound s l
sound_by s l sound all none nobody =
    record {
      record_sound = sound;
      terminals_below = all.below;
      terminals_differ = all.differ;
      none_runs = none;
      operations_exist = all.exist;
      nobody_permitted = nobody;
    }

-- of n entries in use, the one at `at` is taken out
module _ (n at : ℕ) (l : List Entry) (fits : n ≤ length l) (here : at < n) where
  -- what stands at place i then is the entry in use that stood at place j
  abbrev Stood : ℕ → ℕ → Type 0
  Stood i j = (j < n) × (entry_in (taken_out n at l) i ≡ entry_in l j)

  stays : (i : ℕ) → i < n - 1 → i < at → Stood i i
  stays i h before = (omega arith, (taken_out_says n at l here fits).ahead i before)

  moves : (i : ℕ) → i < n - 1 → at ≤ i → Stood i (suc i)
  moves i h behind = (omega arith, (taken_out_says n at l here fits).moved_up i behind (omega arith))

  -- what holds of each of the others holds of each that is left
  pub each_left : (P : Entry → Type 0) → ((i : ℕ) → i < n → i ≢ at → P (get_or l i blank_entry))
      → (i : ℕ) → i < n - 1 → P (get_or (taken_out n at l) i blank_entry)
  each_left P all i h = go (below_or_not i at)
    where
      go : (i < at) ⊎ (at ≤ i) → P (get_or (taken_out n at l) i blank_entry)
      go (inl a) = let (used, same) = stays i h a in rw same (all i used (omega arith))
      go (inr a) = let (used, same) = moves i h a in rw same (all (suc i) used (omega arith))

  left_differ : ((i j : ℕ) → i < n → j < n → terminal_in l i ≡ terminal_in l j → i ≡ j)
      → (i j : ℕ) → i < n - 1 → j < n - 1 → terminal_in (taken_out n at l) i ≡ terminal_in (taken_out n at l) j → i ≡ j
  left_differ differ i j h k q = go (below_or_not i at) (below_or_not j at)
    where
      one_place : {i' j' : ℕ} → Stood i i' → Stood j j' → i' ≡ j'
      one_place {i'} {j'} a b = differ i' j' a.0 b.0 (cc (a.1, b.1))

      go : (i < at) ⊎ (at ≤ i) → (j < at) ⊎ (at ≤ j) → i ≡ j
      go (inl a) (inl b) = one_place (stays i h a) (stays j k b)
      go (inl a) (inr b) = omega (arith, one_place (stays i h a) (moves j k b))
      go (inr a) (inl b) = omega (arith, one_place (moves i h a) (stays j k b))
      go (inr a) (inr b) = omega (arith, one_place (moves i h a) (moves j k b))

  pub left_listed : (names : ℕ) → Listed names n l → Listed names (n - 1) (taken_out n at l)
  left_listed names all =
      record {
        below = each_left (λ e. e.terminal.0 < 64) (λ i h other. all.below i h);
        differ = left_differ all.differ;
        exist = each_left (λ e. e.operation.0 < names) (λ i h other. all.exist i h);
      }

-- entry e is put behind n others
module _ (n : ℕ) (e : Entry) (l : List Entry) (room : n < length l) where
  put_before : (i : ℕ) → i < n → get_or (set l n e) i blank_entry ≡ get_or l i blank_entry
  put_before i h = get_or-set_other l n i e blank_entry (omega arith)

  put_last : (i : ℕ) → i < suc n → n ≤ i → get_or (set l n e) i blank_entry ≡ e
  put_last i h behind = let here : i ≡ n = omega arith in rw here (get_or-set_same l n e blank_entry room)

  -- what holds of each of the others and of e holds of each
  pub each_put : (P : Entry → Type 0) → ((i : ℕ) → i < n → P (get_or l i blank_entry)) → P e
      → (i : ℕ) → i < suc n → P (get_or (set l n e) i blank_entry)
  each_put P all last i h = go (below_or_not i n)
    where
      go : (i < n) ⊎ (n ≤ i) → P (get_or (set l n e) i blank_entry)
      go (inl before) = rw (put_before i before) (all i before)
      go (inr behind) = rw (put_last i h behind) last

  put_differ : ((i j : ℕ) → i < n → j < n → terminal_in l i ≡ terminal_in l j → i ≡ j)
      → ((i : ℕ) → i < n → terminal_in l i ≢ e.terminal.0)
      → (i j : ℕ) → i < suc n → j < suc n → terminal_in (set l n e) i ≡ terminal_in (set l n e) j → i ≡ j
  put_differ differ new i j h k q = go (below_or_not i n) (below_or_not j n)
    where
      go : (i < n) ⊎ (n ≤ i) → (j < n) ⊎ (n ≤ j) → i ≡ j
      go (inl a) (inl b) = differ i j a b (cc (put_before i a, put_before j b))
      go (inl a) (inr b) = absurd (new i a (cc (put_before i a, put_last j k b)))
      go (inr a) (inl b) = absurd (new j b (cc (put_before j b, put_last i h a)))
      go (inr a) (inr b) = omega arith

  pub put_listed : (names : ℕ) → Listed names n l → e.terminal.0 < 64 → ((i : ℕ) → i < n → terminal_in l i ≢ e.terminal.0)
      → e.operation.0 < names → Listed names (suc n) (set l n e)
  put_listed names all few new known =
      record {
        below = each_put (λ e. e.terminal.0 < 64) all.below few;
        differ = put_differ all.differ new;
        exist = each_put (λ e. e.operation.0 < names) all.exist known;
      }
