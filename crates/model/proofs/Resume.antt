-- The serial run in two parts: the commands behind a place, run on what those up to it leave, give the answers and the entries of the whole run;
-- what they leave a store can hold; and a checkpoint leaves the entries as they are. Assumes nothing.
use Prim.Native.Nat.{ℕ, zero, suc, ◌+◌, ◌≤◌}
use Rattle.std.proofs.Common.{arith, inl, ⊎_elim, leb-true}
use Rattle.std.specs.Prelude.{◌≡◌, true, ◌&&◌, ◌⊎◌, take, drop, leb}
use Rattle.std.proofs.Math.Path.{refl}
use Rattle.std.proofs.Math.Bool.{and-eq-true_iff}
use mathlib.Core.List.{List, [], ◌∷◌}
use Rattle.std.proofs.Math.Option.{none, some}
use Rattle.std.proofs.Math.ListN.{get_elem?}
use Rattle.s10.specs.Text.{largest_key}
use Rattle.command.specs.declared.Kind.{Kind}
use Rattle.command.specs.declared.Kind.TheVariants.{Insert, Update}
use Rattle.command.specs.declared.Command.{Command}
use Rattle.command.specs.Dependent.{is_checkpoint}
use Rattle.command.specs.Read.{chute_fits}
use Rattle.command.proofs.Laws.{checkpoint_is}
use Rattle.model.specs.Setup.{command_at}
use Rattle.model.specs.Serial.{Entry, All, Stored, serve_kind, serve, entries_after, answers_after}
use Rattle.command.proofs.Tests.{none_some}
use Rattle.model.proofs.Serial.{all_put_in, all_take_out, all_set_chute, serve_keeps, serve_ascending, serve_fits}

-- ---- what a store can hold

-- "Insert and update carry chute 1 to 512"
brings_fitting : (kind : Kind) (chute : ℕ) → chute_fits kind chute ≡ true → (kind ≡ Insert) ⊎ (kind ≡ Update) → (1 ≤ chute) × (chute ≤ 512)
unfolding chute_fits
brings_fitting kind chute fits which = within (⊎_elim (λ q. rw q at fits) (λ q. rw q at fits) which)
  where
    within : leb 1 chute && leb chute 512 ≡ true → (1 ≤ chute) × (chute ≤ 512)
    within e = let both = (and-eq-true_iff (leb 1 chute) (leb chute 512)).0 e in (leb-true 1 chute both.0, leb-true chute 512 both.1)

-- a command whose key and chute fit leaves entries that a store can hold
pub serve_stored : (capacity : ℕ) (c : Command) (es : List Entry) → chute_fits c.kind c.chute ≡ true → c.key ≤ largest_key → Stored capacity es → Stored capacity (serve capacity c es).entries
serve_stored capacity c es fits low h = record {
  ascending = serve_ascending capacity c es h.ascending;
  fits = serve_fits capacity c es h.fits;
  keys = serve_keeps (All KeyFits) capacity c es h.keys (λ _ _ _. all_put_in KeyFits _ es low h.keys) (λ _. all_take_out KeyFits c.key es h.keys) (λ _. all_set_chute KeyFits c.key c.chute es (λ _ _ _. low) h.keys);
  chutes = serve_keeps (All ChuteFits) capacity c es h.chutes (λ q _ _. all_put_in ChuteFits _ es (brings_fitting c.kind c.chute fits (inl q)) h.chutes)
      (λ _. all_take_out ChuteFits c.key es h.chutes) (λ q. all_set_chute ChuteFits c.key c.chute es (λ _ _ _. brings_fitting c.kind c.chute fits q) h.chutes);
}
  where
    KeyFits : Entry → Type 0
    KeyFits e = e.key ≤ largest_key

    ChuteFits : Entry → Type 0
    ChuteFits e = (1 ≤ e.chute) × (e.chute ≤ 512)

-- so do the first n of such commands
pub stored_after : (capacity n : ℕ) (cs : List Command) (es : List Entry)
    → ((j : ℕ) (c : Command) → get_elem? cs j ≡ some c → (chute_fits c.kind c.chute ≡ true) × (c.key ≤ largest_key)) → Stored capacity es → Stored capacity (entries_after capacity (take n cs) es)
unfolding entries_after
stored_after capacity zero cs es fit h = h
stored_after capacity (suc n) [] es fit h = h
stored_after capacity (suc n) (c ∷ cs) es fit h =
    stored_after capacity n cs (serve capacity c es).entries (λ j. fit (suc j)) (serve_stored capacity c es (fit 0 c refl).0 (fit 0 c refl).1 h)

-- ---- the run in two parts

module _ (capacity : ℕ) where
  -- the rest of the commands, run on what the first n leave, leaves what the whole run does
  pub entries_in_parts : (n : ℕ) (cs : List Command) (es : List Entry) → entries_after capacity (drop n cs) (entries_after capacity (take n cs) es) ≡ entries_after capacity cs es
  unfolding entries_after
  entries_in_parts zero cs es = refl
  entries_in_parts (suc n) [] es = refl
  entries_in_parts (suc n) (c ∷ cs) es = entries_in_parts n cs (serve capacity c es).entries

  -- and is answered as there
  pub answers_in_parts : (n : ℕ) (cs : List Command) (es : List Entry) → answers_after capacity (drop n cs) (entries_after capacity (take n cs) es) ≡ drop n (answers_after capacity cs es)
  unfolding entries_after answers_after
  answers_in_parts zero cs es = refl
  answers_in_parts (suc n) [] es = refl
  answers_in_parts (suc n) (c ∷ cs) es = answers_in_parts n cs (serve capacity c es).entries

  -- a checkpoint leaves the entries
  pub checkpoint_leaves : (c : Command) (es : List Entry) → is_checkpoint c.kind ≡ true → (serve capacity c es).entries ≡ es
  unfolding serve serve_kind
  checkpoint_leaves c es is = rw (checkpoint_is c.kind is)

  -- so the commands up to one leave what those before it do
  pub entries_up_to : (n : ℕ) (cs : List Command) (c : Command) (es : List Entry) → get_elem? cs n ≡ some c → is_checkpoint c.kind ≡ true
      → entries_after capacity (take (suc n) cs) es ≡ entries_after capacity (take n cs) es
  unfolding entries_after
  entries_up_to n [] c es e is = absurd (none_some none refl e)
  entries_up_to zero (b ∷ cs) c es e is = let q : b ≡ c = cc in rw q (checkpoint_leaves c es is)
  entries_up_to (suc n) (b ∷ cs) c es e is = entries_up_to n cs c (serve capacity b es).entries e is

-- ---- the commands behind a place

dropped_at : (n : ℕ) (cs : List Command) (j : ℕ) → get_elem? (drop n cs) j ≡ get_elem? cs (n + j)
dropped_at zero cs j = let e : 0 + j ≡ j = omega arith in rw e
dropped_at (suc n) [] j = refl
dropped_at (suc n) (c ∷ cs) j = let e : suc n + j ≡ suc (n + j) = omega arith in rw e (dropped_at n cs j)

-- a command of the rest is one of the list
pub command_dropped : (n : ℕ) (cs : List Command) (j : ℕ) (c : Command) → command_at (drop n cs) j ≡ some c → command_at cs (n + j) ≡ some c
unfolding command_at
command_dropped n cs zero c e = absurd (none_some none refl e)
command_dropped n cs (suc j) c e = let q : n + suc j ≡ suc (n + j) = omega arith in rw (q, ← dropped_at n cs j) e
