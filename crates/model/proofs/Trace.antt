-- Traces: commands that are left out of a run, or run late, change no reply, as long as every command is run after those before it that
-- it depends on. It speaks of any commands, any state and any replies. Assumes nothing.
use Prim.Native.Nat.{ℕ, zero, suc, ◌+◌, ◌≤◌, ◌<◌}
use native.Mathlib.Omega.{arith}
use Rattle.std.specs.Prelude.{◌≡◌, Bool, length, take}
use Rattle.std.proofs.Math.Path.{refl, sym, ap}
use Rattle.std.proofs.Common.{◌∙◌, subst}
use Rattle.std.proofs.Math.Bool.{true, false, cond}
use mathlib.Core.List.{List, [], ◌∷◌}
use Rattle.std.proofs.Math.Option.{none, some}
use Rattle.std.proofs.Math.ListN.{get_elem?}
use Rattle.std.proofs.Math.Dec.{ltb}
use borrow.Author.Tests.{lt-ltb, le-ltb}
use Rattle.command.proofs.Tests.{fails, true_false, none_some}

-- c stands at place k of a list whose first place is i
pub record Placed {A : Type 0} (i : ℕ) (cs : List A) (k : ℕ) (c : A) : Type 0 where
  pub offset : ℕ
  pub place : k ≡ i + offset
  pub found : get_elem? cs offset ≡ some c

-- the first command
pub here : {A : Type 0} {i : ℕ} {c : A} {cs : List A} → Placed i (c ∷ cs) i c
here = record { offset = 0; place = omega arith; found = refl }

-- a command of the tail
pub later : {A : Type 0} {i k : ℕ} {a b : A} {cs : List A} → Placed (suc i) cs k b → Placed i (a ∷ cs) k b
later at = record { offset = suc at.offset; place = omega arith; found = at.found }

-- ---- running a list of commands

module _ {C S : Type 0} (effect : C → S → S) where
  -- all of them, in order
  unfoldable pub run : List C → S → S
  run [] s = s
  run (c ∷ cs) s = run cs (effect c s)

  -- in order, only those whose place is in W; the first place is i
  unfoldable pub run_only : (ℕ → Bool) → ℕ → List C → S → S
  run_only W i [] s = s
  run_only W i (c ∷ cs) s = run_only W (suc i) cs (cond (W i) (effect c s) s)

  -- every place of the list
  abbrev pub EachPlace : ℕ → List C → (ℕ → Type 0) → Type 0
  EachPlace i cs P = (k : ℕ) → i ≤ k → k < i + length cs → P k

  -- two sets that agree on the list's places give one run
  pub run_only_agrees : (W U : ℕ → Bool) (i : ℕ) (cs : List C) (s : S) → EachPlace i cs (λ k. W k ≡ U k) → run_only W i cs s ≡ run_only U i cs s
  unfolding run_only
  run_only_agrees W U i [] s agree = refl
  run_only_agrees W U i (c ∷ cs) s agree =
      rw (agree i (omega arith) (omega arith))
      (run_only_agrees W U (suc i) cs (cond (U i) (effect c s) s) (λ k l h. agree k (omega arith) (omega arith)))

  -- (T3) W everything: the full run
  pub run_only_all : (W : ℕ → Bool) (i : ℕ) (cs : List C) (s : S) → EachPlace i cs (λ k. W k ≡ true) → run_only W i cs s ≡ run cs s
  unfolding run run_only
  run_only_all W i [] s all = refl
  run_only_all W i (c ∷ cs) s all =
      rw (all i (omega arith) (omega arith)) (run_only_all W (suc i) cs (effect c s) (λ k l h. all k (omega arith) (omega arith)))

  -- W nothing: the state stays
  pub run_only_none : (W : ℕ → Bool) (i : ℕ) (cs : List C) (s : S) → EachPlace i cs (λ k. W k ≡ false) → run_only W i cs s ≡ s
  unfolding run_only
  run_only_none W i [] s nothing = refl
  run_only_none W i (c ∷ cs) s nothing =
      rw (nothing i (omega arith) (omega arith)) (run_only_none W (suc i) cs s (λ k l h. nothing k (omega arith) (omega arith)))

  -- W the places before the one n further on: the first n
  pub run_only_before : (n i : ℕ) (cs : List C) (s : S) → run_only (λ k. ltb k (i + n)) i cs s ≡ run (take n cs) s
  unfolding run run_only
  run_only_before zero i cs s = run_only_none (λ k. ltb k (i + 0)) i cs s (λ k l h. le-ltb k (i + 0) (omega arith))
  run_only_before (suc n) i [] s = refl
  run_only_before (suc n) i (c ∷ cs) s =
      let on : i + suc n ≡ suc i + n = omega arith in
      rw (lt-ltb i (i + suc n) (omega arith))
      (subst (λ (m : ℕ). run_only (λ k. ltb k m) (suc i) cs (effect c s) ≡ run (take n cs) (effect c s)) (sym on) (run_only_before n (suc i) cs (effect c s)))

  -- what the effect of each command keeps, the run keeps
  pub run_only_keeps : (P : S → Type 0) (W : ℕ → Bool) (i : ℕ) (cs : List C) (s : S)
      → ((k : ℕ) (c : C) (s : S) → Placed i cs k c → P s → P (effect c s)) → P s → P (run_only W i cs s)
  unfolding run_only
  run_only_keeps P W i [] s keeps p = p
  run_only_keeps P W i (c ∷ cs) s keeps p =
      run_only_keeps P W (suc i) cs (cond (W i) (effect c s) s) (λ k b s at. keeps k b s (later at)) (one (W i))
    where
      one : (t : Bool) → P (cond t (effect c s) s)
      one true = keeps i c s here p
      one false = p

-- ---- the law, and what follows from it

-- `dep` is symmetric, and independent commands commute: their effects do, and neither changes the other's reply
pub record Commuting {C S R : Type 0} (effect : C → S → S) (reply : C → S → R) (dep : C → C → Bool) : Type 0 where
  pub symmetric : (a b : C) → dep a b ≡ dep b a
  pub effects : (a b : C) (s : S) → dep a b ≡ false → effect a (effect b s) ≡ effect b (effect a s)
  pub replies : (a b : C) (s : S) → dep a b ≡ false → reply a (effect b s) ≡ reply a s

-- W is closed downwards: a command of W has every earlier command that it depends on in W
abbrev pub Closed : {C : Type 0} → (C → C → Bool) → (ℕ → Bool) → ℕ → List C → Type 0
Closed {C} dep W i cs =
    (j k : ℕ) (a b : C) → Placed i cs j a → Placed i cs k b → j < k → dep a b ≡ true → W k ≡ true → W j ≡ true

-- what stands in the first n of a list stands in the list
in_take : {A : Type 0} {a : A} (n : ℕ) (cs : List A) (j : ℕ) → get_elem? (take n cs) j ≡ some a → (j < n) × (get_elem? cs j ≡ some a)
in_take zero cs j e = absurd (none_some none refl e)
in_take (suc n) [] j e = absurd (none_some none refl e)
in_take (suc n) (c ∷ cs) zero e = (omega arith, e)
in_take (suc n) (c ∷ cs) (suc j) e = let r = in_take n cs j e in (omega arith, r.1)

module _ {C S R : Type 0} (effect : C → S → S) (reply : C → S → R) (dep : C → C → Bool) (law : Commuting effect reply dep) (W : ℕ → Bool) where
  -- c is independent of each command of the list that is in W
  abbrev Apart : ℕ → List C → C → Type 0
  Apart i cs c = (k : ℕ) (b : C) → Placed i cs k b → W k ≡ true → dep c b ≡ false

  -- then it may be run before them or after them
  passes : (i : ℕ) (cs : List C) (c : C) (s : S) → Apart i cs c → run_only effect W i cs (effect c s) ≡ effect c (run_only effect W i cs s)
  unfolding run_only
  passes i [] c s apart = refl
  passes i (b ∷ cs) c s apart = rw (one (W i) (apart i b here)) (passes (suc i) cs c _ (λ k a at. apart k a (later at)))
    where
      one : (t : Bool) → (t ≡ true → dep c b ≡ false) → cond t (effect b (effect c s)) (effect c s) ≡ effect c (cond t (effect b s) s)
      one true h = sym (law.effects c b s (h refl))
      one false h = refl

  -- and they do not change its reply
  reply_kept : (i : ℕ) (cs : List C) (c : C) (s : S) → Apart i cs c → reply c (run_only effect W i cs s) ≡ reply c s
  unfolding run_only
  reply_kept i [] c s apart = refl
  reply_kept i (b ∷ cs) c s apart = reply_kept (suc i) cs c _ (λ k a at. apart k a (later at)) ∙ one (W i) (apart i b here)
    where
      one : (t : Bool) → (t ≡ true → dep c b ≡ false) → reply c (cond t (effect b s) s) ≡ reply c s
      one true h = law.replies c b s (h refl)
      one false h = refl

  -- A command behind the list, all of whose dependences in the list are in W, has one reply after W and after the whole list: each
  -- command that is left out passes behind those of W after it, and does not change the reply.
  reply_after : (i : ℕ) (cs : List C) (c : C) (s : S) → Closed dep W i cs → ((j : ℕ) (a : C) → Placed i cs j a → dep a c ≡ true → W j ≡ true)
      → reply c (run_only effect W i cs s) ≡ reply c (run effect cs s)
  unfolding run_only run
  reply_after i [] c s closed needed = refl
  reply_after i (a ∷ cs) c s closed needed =
      one (W i) refl
      ∙ reply_after (suc i) cs c (effect a s) (λ j k b d p q. closed j k b d (later p) (later q)) (λ j b p. needed j b (later p))
    where
      one : (t : Bool) → W i ≡ t → reply c (run_only effect W (suc i) cs (cond t (effect a s) s)) ≡ reply c (run_only effect W (suc i) cs (effect a s))
      one true e = refl
      one false e = sym (rw (passes (suc i) cs a s apart) (law.replies c a _ free))
        where
          apart : Apart (suc i) cs a
          apart k b at w = fails (dep a b) (λ d. true_false _ (closed i k a b here (later at) (omega arith) d w) e)

          free : dep c a ≡ false
          free = fails (dep c a) (λ d. true_false _ (needed i a here (law.symmetric a c ∙ d)) e)

  -- At its place a command has the reply of the full run, if W has every earlier command that it depends on.
  pub reply_in_place : (i : ℕ) (cs : List C) (k : ℕ) (c : C) (s : S) (at : Placed i cs k c) → Closed dep W i cs
      → ((j : ℕ) (a : C) → Placed i cs j a → j < k → dep a c ≡ true → W j ≡ true)
      → reply c (run_only effect W i (take at.offset cs) s) ≡ reply c (run effect (take at.offset cs) s)
  reply_in_place i cs k c s at closed needed =
      reply_after i (take at.offset cs) c s (λ j m a b p q. closed j m a b (whole p) (whole q))
      (λ j a p. needed j a (whole p) (omega (arith, (in_take at.offset cs p.offset p.found).0)))
    where
      whole : {j : ℕ} {a : C} → Placed i (take at.offset cs) j a → Placed i cs j a
      whole p = record { offset = p.offset; place = p.place; found = (in_take at.offset cs p.offset p.found).1 }

  -- (T1) So running only W gives each command of W, at its place, the reply of the full run.
  pub reply_in_run : (i : ℕ) (cs : List C) (k : ℕ) (c : C) (s : S) (at : Placed i cs k c) → Closed dep W i cs → W k ≡ true
      → reply c (run_only effect W i (take at.offset cs) s) ≡ reply c (run effect (take at.offset cs) s)
  reply_in_run i cs k c s at closed w = reply_in_place i cs k c s at closed (λ j a p l d. closed j k a c p at l d w)

  -- c is independent of each command of W behind place k
  abbrev Behind : ℕ → List C → ℕ → C → Type 0
  Behind i cs k c = (j : ℕ) (b : C) → Placed i cs j b → k < j → W j ≡ true → dep c b ≡ false

  -- then c has one reply after W and at its place
  late_reply : (i : ℕ) (cs : List C) (k n : ℕ) (c : C) (s : S) → k ≡ i + n → get_elem? cs n ≡ some c → W k ≡ false → Behind i cs k c
      → reply c (run_only effect W i cs s) ≡ reply c (run_only effect W i (take n cs) s)
  unfolding run_only
  late_reply i [] k n c s at e out behind = absurd (none_some none refl e)
  late_reply i (b ∷ cs) k zero c s at e out behind =
      let q : i ≡ k = omega arith in
      rw (ap W q ∙ out) (reply_kept (suc i) cs c s (λ j a p. behind j a (later p) (omega arith)))
  late_reply i (b ∷ cs) k (suc n) c s at e out behind = late_reply (suc i) cs k n c _ (omega arith) e out (λ j a p. behind j a (later p))

  -- and its effect after W is that at its place, U being W with c
  late_effect : (U : ℕ → Bool) (i : ℕ) (cs : List C) (k n : ℕ) (c : C) (s : S) → k ≡ i + n → get_elem? cs n ≡ some c → W k ≡ false → Behind i cs k c
      → U k ≡ true → ((j : ℕ) → (j ≡ k → ⊥) → U j ≡ W j)
      → effect c (run_only effect W i cs s) ≡ run_only effect U i cs s
  unfolding run_only
  late_effect U i [] k n c s at e out behind new same = absurd (none_some none refl e)
  late_effect U i (b ∷ cs) k zero c s at e out behind new same =
      let q : i ≡ k = omega arith in
      let d : b ≡ c = cc in
      rw (ap W q ∙ out, ap U q ∙ new, d)
      (sym (passes (suc i) cs c s (λ j a p. behind j a (later p) (omega arith)))
      ∙ run_only_agrees effect W U (suc i) cs (effect c s) (λ j l h. sym (same j (λ (r : j ≡ k). omega arith))))
  late_effect U i (b ∷ cs) k (suc n) c s at e out behind new same =
      rw (same i (λ (q : i ≡ k). omega arith)) (late_effect U (suc i) cs k n c _ (omega arith) e out (λ j a p. behind j a (later p)) new same)

  -- (T2) A command that is not in W, with every earlier command that it depends on in W, has after W the reply of the full run, and its
  -- effect after W is that of running W with it, U: it is independent of each command of W behind it, or it would be in W.
  module _ (i : ℕ) (cs : List C) (k : ℕ) (c : C) (s : S) (at : Placed i cs k c) (closed : Closed dep W i cs) (out : W k ≡ false) where
    behind : Behind i cs k c
    behind j b p l w = fails (dep c b) (λ d. true_false _ (closed k j c b at p l d w) out)

    pub next_reply : ((j : ℕ) (a : C) → Placed i cs j a → j < k → dep a c ≡ true → W j ≡ true)
        → reply c (run_only effect W i cs s) ≡ reply c (run effect (take at.offset cs) s)
    next_reply needed = late_reply i cs k at.offset c s at.place at.found out behind ∙ reply_in_place i cs k c s at closed needed

    pub next_effect : (U : ℕ → Bool) → U k ≡ true → ((j : ℕ) → (j ≡ k → ⊥) → U j ≡ W j)
        → effect c (run_only effect W i cs s) ≡ run_only effect U i cs s
    next_effect U = late_effect U i cs k at.offset c s at.place at.found out behind
