-- Part T and the commuting laws put together for the model: the entries and the worker count that a set of commands gives when it is run
-- alone in delivery order, and what one more command adds to them. Assumes nothing.
use Prim.Native.Nat.{ℕ, zero, suc, ◌+◌, ◌≤◌, ◌<◌}
use Rattle.std.proofs.Common.{arith, ◌∙◌, ap, ⊎_elim}
use Rattle.std.specs.Prelude.{◌≡◌, refl, Bool, true, false, cond, List, [], ◌∷◌, length, get_or, take, leb}
use Rattle.std.proofs.Math.Path.{sym}
use Rattle.std.proofs.Math.Option.{none, some}
use Rattle.std.proofs.Math.ListN.{get_elem?}
use Rattle.std.proofs.Math.Dec.{ltb}
use Rattle.command.specs.declared.Kind.{Kind}
use Rattle.command.specs.declared.Kind.TheVariants.{Insert, Delete, Read, Update, Workers, Checkpoint}
use Rattle.command.specs.declared.Command.{Command}
use Rattle.command.specs.Dependent.{are_dependent}
use Rattle.command.specs.Count.{count_after}
use Rattle.command.proofs.Count.{count_fits, largest_from, largest_covers, largest_within}
use Rattle.model.specs.Serial.{Entry, Served, present, serve_kind, serve}
use Rattle.model.specs.Serial.{entries_after, answers_after, serial_answers, serial_entries}
use Rattle.model.specs.Upd.{upd}
use Rattle.model.specs.Setup.{Setup, command_at}
use Rattle.model.specs.Statement.{Accepted, EachCommand, serial_answer}
use Rattle.model.specs.Count.{count_from, count_of, count_before}
use Rattle.model.specs.Store.{lay_out}
use Rattle.model.specs.Moment.{only_from, table_of}
use Rattle.command.proofs.Tests.{none_some, eqb_cases, cond_cases}
use Rattle.model.proofs.Upd.{upd_same, upd_other}
use Rattle.model.proofs.Trace.{Placed, Closed, run, run_only}
use Rattle.model.proofs.Trace.{run_only_agrees, run_only_all, run_only_none, run_only_before, run_only_keeps, next_reply, next_effect}
use Rattle.model.proofs.Serial.{AllPositive, BringsPositive, fitting_brings_positive, serve_ascending, serve_fits, serve_positive, chute_at_present, all_map}
use Rattle.model.specs.Serial.{Ascending}
use Rattle.model.proofs.Commute.{effect_of, reply_of, service_commutes, counts_commute}

-- the entries after the commands of W alone, in delivery order
unfoldable pub entries_of : Setup → (ℕ → Bool) → List Entry
entries_of o W = run_only (effect_of o.capacity) W 1 o.commands o.entries

-- a command of W has every earlier command that it depends on in W
abbrev pub ClosedDown : Setup → (ℕ → Bool) → Type 0
ClosedDown o W =
    (j k : ℕ) (a b : Command) → command_at o.commands j ≡ some a → command_at o.commands k ≡ some b
    → j < k → are_dependent a b ≡ true → W k ≡ true → W j ≡ true

-- every command before place k on which c depends is in W
abbrev pub EarlierIn : Setup → (ℕ → Bool) → ℕ → Command → Type 0
EarlierIn o W k c = (j : ℕ) (a : Command) → command_at o.commands j ≡ some a → j < k → are_dependent a c ≡ true → W j ≡ true

-- ---- the command of a place, in the terms of part T

pub placed : (cs : List Command) (k : ℕ) (c : Command) → command_at cs k ≡ some c → Placed 1 cs k c
unfolding command_at
placed cs zero c e = absurd (none_some none refl e)
placed cs (suc n) c e = record { offset = n; place = omega arith; found = e }

command_placed : (cs : List Command) (k : ℕ) (c : Command) → Placed 1 cs k c → command_at cs k ≡ some c
unfolding command_at
command_placed cs k c p = let q : k ≡ suc p.offset = omega arith in rw q p.found

-- ---- the serial run is the full run

-- "There is one answer a command."
answers_length : (capacity : ℕ) (cs : List Command) (es : List Entry) → length (answers_after capacity cs es) ≡ length cs
unfolding answers_after
answers_length capacity [] es = refl
answers_length capacity (c ∷ cs) es = ap suc (answers_length capacity cs (serve capacity c es).entries)

pub serial_length : (capacity : ℕ) (first : List Entry) (cs : List Command) → length (serial_answers capacity first cs) ≡ length cs
unfolding serial_answers
serial_length capacity first cs = answers_length capacity cs first

-- the answer to a command is its reply in the full run
answer_at : (capacity : ℕ) (cs : List Command) (n : ℕ) (c : Command) (es : List Entry) → get_elem? cs n ≡ some c
    → get_or (answers_after capacity cs es) n 0 ≡ reply_of capacity c (run (effect_of capacity) (take n cs) es)
unfolding answers_after run
answer_at capacity [] n c es e = absurd (none_some none refl e)
answer_at capacity (b ∷ cs) zero c es e = let q : b ≡ c = cc in ap (λ (x : Command). reply_of capacity x es) q
answer_at capacity (b ∷ cs) (suc n) c es e = answer_at capacity cs n c (effect_of capacity b es) e

serial_answer_at : (o : Setup) (k : ℕ) (c : Command) (p : Placed 1 o.commands k c)
    → serial_answer o k ≡ reply_of o.capacity c (run (effect_of o.capacity) (take p.offset o.commands) o.entries)
unfolding serial_answer serial_answers
serial_answer_at o k c p =
    let q : k ≡ suc p.offset = omega arith in
    rw q (answer_at o.capacity o.commands p.offset c o.entries p.found)

-- and the last entries are the full run's
pub entries_after_lem : (capacity : ℕ) (cs : List Command) (es : List Entry) → run (effect_of capacity) cs es ≡ entries_after capacity cs es
unfolding run entries_after
entries_after_lem capacity [] es = refl
entries_after_lem capacity (c ∷ cs) es = entries_after_lem capacity cs (effect_of capacity c es)

-- ---- the entries of a set

-- they hang only on which commands of the list are in the set
pub entries_agree : (o : Setup) (W U : ℕ → Bool) → EachCommand o (λ c. W c ≡ U c) → entries_of o W ≡ entries_of o U
unfolding entries_of
entries_agree o W U agree = run_only_agrees (effect_of o.capacity) W U 1 o.commands o.entries (λ k l h. agree k l (omega arith))

pub entries_all : (o : Setup) (W : ℕ → Bool) → EachCommand o (λ c. W c ≡ true) → entries_of o W ≡ serial_entries o.capacity o.entries o.commands
unfolding entries_of serial_entries
entries_all o W all =
    run_only_all (effect_of o.capacity) W 1 o.commands o.entries (λ k l h. all k l (omega arith)) ∙ entries_after_lem o.capacity o.commands o.entries

-- they are those of the set's commands run alone
only_run : (capacity : ℕ) (W : ℕ → Bool) (i : ℕ) (cs : List Command) (es : List Entry) → run_only (effect_of capacity) W i cs es ≡ entries_after capacity (only_from W i cs) es
unfolding run_only entries_after only_from
only_run capacity W i [] es = refl
only_run capacity W i (c ∷ cs) es = first (W i) (only_run capacity W (suc i) cs)
  where
    first : (b : Bool) → ((fs : List Entry) → run_only (effect_of capacity) W (suc i) cs fs ≡ entries_after capacity (only_from W (suc i) cs) fs)
        → run_only (effect_of capacity) W (suc i) cs (cond b (effect_of capacity c es) es) ≡ entries_after capacity (cond b (c ∷ only_from W (suc i) cs) (only_from W (suc i) cs)) es
    first true same = same (effect_of capacity c es)
    first false same = same es

pub table_of_lem : (o : Setup) (W : ℕ → Bool) → lay_out o.capacity (entries_of o W) ≡ table_of o W
unfolding entries_of table_of serial_entries
table_of_lem o W = ap (lay_out o.capacity) (only_run o.capacity W 1 o.commands o.entries)

pub entries_none : (o : Setup) → entries_of o (λ c. false) ≡ o.entries
unfolding entries_of
entries_none o = run_only_none (effect_of o.capacity) (λ c. false) 1 o.commands o.entries (λ k l h. refl)

-- what every command keeps holds of the entries, if it holds of the first ones
pub entries_keep : (P : List Entry → Type 0) (o : Setup) (W : ℕ → Bool)
    → ((k : ℕ) (c : Command) (es : List Entry) → command_at o.commands k ≡ some c → P es → P (serve o.capacity c es).entries)
    → P o.entries → P (entries_of o W)
unfolding entries_of
entries_keep P o W keeps p =
    run_only_keeps (effect_of o.capacity) P W 1 o.commands o.entries (λ k c es at. keeps k c es (command_placed o.commands k c at)) p

-- ---- one more command

-- what is in W is in W with k
upd_more : (W : ℕ → Bool) (k j : ℕ) → W j ≡ true → upd W k true j ≡ true
upd_more W k j w = ⊎_elim (λ p. rw p.0 (upd_same W k true)) (λ p. upd_other W k true j p.0 ∙ w) (eqb_cases j k)

module _ (o : Setup) (W : ℕ → Bool) (k : ℕ) (c : Command) (closed : ClosedDown o W) (at : command_at o.commands k ≡ some c) where
  closed_trace : Closed are_dependent W 1 o.commands
  closed_trace j m a b p q = closed j m a b (command_placed _ j a p) (command_placed _ m b q)

  -- it is answered as in the serial run, and leaves the entries of W with it
  pub served_next : W k ≡ false → EarlierIn o W k c
      → ((serve o.capacity c (entries_of o W)).answer ≡ serial_answer o k)
      × ((serve o.capacity c (entries_of o W)).entries ≡ entries_of o (upd W k true))
  unfolding entries_of
  served_next out earlier =
      let law = service_commutes o.capacity in
      let p = placed o.commands k c at in
      let answered = next_reply _ _ are_dependent law W 1 _ k c o.entries p closed_trace out (λ j a q. earlier j a (command_placed _ j a q)) in
      let left = next_effect _ _ are_dependent law W 1 _ k c o.entries p closed_trace out (upd W k true) (upd_same W k true) (upd_other W k true) in
      (answered ∙ sym (serial_answer_at o k c p), left)

  -- a set that is closed downwards stays so
  pub closed_next : EarlierIn o W k c → ClosedDown o (upd W k true)
  closed_next earlier i j a b p q l d w =
      upd_more W k i
      (⊎_elim (λ r. let n = r.0 in let e : b ≡ c = cc in earlier i a p (omega arith) (rw e at d))
      (λ r. closed i j a b p q l d (sym (upd_other W k true j r.0) ∙ w)) (eqb_cases j k))

-- ---- every answer is from 1 up

-- an answer is a chute found, or 1000 and more
answer_positive : (k : Kind) (capacity key chute : ℕ) (es : List Entry) → AllPositive es → 1 ≤ (serve_kind k capacity key chute es).answer
unfolding serve_kind
answer_positive Insert capacity key chute es h =
    cond_cases (λ (s : Served). 1 ≤ s.answer) (present key es) (λ _. omega arith)
    (λ _. cond_cases (λ (s : Served). 1 ≤ s.answer) (leb capacity (length es)) (λ _. omega arith) (λ _. omega arith))
answer_positive Delete capacity key chute es h = cond_cases (λ (s : Served). 1 ≤ s.answer) (present key es) (λ _. omega arith) (λ _. omega arith)
answer_positive Read capacity key chute es h = cond_cases (λ (s : Served). 1 ≤ s.answer) (present key es) (chute_at_present key es h) (λ _. omega arith)
answer_positive Update capacity key chute es h = cond_cases (λ (s : Served). 1 ≤ s.answer) (present key es) (λ _. omega arith) (λ _. omega arith)
answer_positive Workers capacity key chute es h = omega arith
answer_positive Checkpoint capacity key chute es h = omega arith

answers_positive : (capacity : ℕ) (cs : List Command) (es : List Entry) (n : ℕ) → AllPositive es
    → ((j : ℕ) (c : Command) → get_elem? cs j ≡ some c → BringsPositive c.kind c.chute) → n < length cs → 1 ≤ get_or (answers_after capacity cs es) n 0
unfolding answers_after serve
answers_positive capacity [] es n h fit l = absurd (omega arith)
answers_positive capacity (c ∷ cs) es zero h fit l = answer_positive c.kind capacity c.key c.chute es h
answers_positive capacity (c ∷ cs) es (suc n) h fit l =
    answers_positive capacity cs (serve capacity c es).entries n (serve_positive capacity c es (fit 0 c refl) h) (λ j. fit (suc j)) (omega arith)

-- ---- the entries of every set of commands, and the serial run's answers

module _ (o : Setup) (accepted : Accepted o) where
  pub entries_ascending : (W : ℕ → Bool) → Ascending (entries_of o W)
  entries_ascending W = entries_keep Ascending o W (λ k c es at. serve_ascending o.capacity c es) accepted.entries.ascending

  pub entries_fit : (W : ℕ → Bool) → length (entries_of o W) ≤ o.capacity
  entries_fit W = entries_keep (λ (es : List Entry). length es ≤ o.capacity) o W (λ k c es at. serve_fits o.capacity c es) accepted.entries.fits

  -- the chutes that the store begins with are from 1 up
  first_positive : AllPositive o.entries
  first_positive = all_map (λ e h. h.0) o.entries accepted.entries.chutes

  accepted_positive : (k : ℕ) (c : Command) → command_at o.commands k ≡ some c → BringsPositive c.kind c.chute
  accepted_positive k c at = fitting_brings_positive c.kind c.chute (accepted.chutes k c at)

  -- every serial answer is from 1 up
  pub serial_positive : EachCommand o (λ c. 1 ≤ serial_answer o c)
  unfolding serial_answer serial_answers command_at
  serial_positive zero l h = absurd (omega arith)
  serial_positive (suc n) l h = answers_positive o.capacity o.commands o.entries n first_positive (λ j. accepted_positive (suc j)) (omega arith)

  pub entries_positive : (W : ℕ → Bool) → AllPositive (entries_of o W)
  entries_positive W = entries_keep AllPositive o W (λ k c es at. serve_positive o.capacity c es (accepted_positive k c at)) first_positive

-- ---- the worker count

-- the count of a set in the terms of part T
count_as_run : (W : ℕ → Bool) (i : ℕ) (cs : List Command) (n : ℕ) → count_from W i cs n ≡ run_only count_after W i cs n
unfolding count_from run_only
count_as_run W i [] n = refl
count_as_run W i (c ∷ cs) n = count_as_run W (suc i) cs (cond (W i) (count_after c n) n)

-- it hangs only on which commands of the list are in the set
pub count_agree : (o : Setup) (W U : ℕ → Bool) → EachCommand o (λ c. W c ≡ U c) → count_of o W ≡ count_of o U
unfolding count_of
count_agree o W U agree =
    count_as_run W 1 o.commands o.workers
    ∙ (run_only_agrees count_after W U 1 o.commands o.workers (λ k l h. agree k l (omega arith)) ∙ sym (count_as_run U 1 o.commands o.workers))

pub count_none : (o : Setup) → count_of o (λ c. false) ≡ o.workers
unfolding count_of
count_none o = count_as_run (λ c. false) 1 o.commands o.workers ∙ run_only_none count_after (λ c. false) 1 o.commands o.workers (λ k l h. refl)

-- the count of every set is from 1 to the largest, which is at most 64
pub largest_fits : (o : Setup) → Accepted o → (1 ≤ o.largest) × (o.largest ≤ 64)
unfolding command_at
largest_fits o acc =
    rw acc.largest (largest_within (λ (n : ℕ). (1 ≤ n) × (n ≤ 64)) o.workers o.commands acc.workers
    (λ m k p q. let a = p.0 in let b = p.1 in let c = q.1 in (omega arith, omega arith)) (λ j c e m. count_fits c m (acc.chutes (suc j) c e)))

pub count_within : (o : Setup) → Accepted o → (W : ℕ → Bool) → (1 ≤ count_of o W) × (count_of o W ≤ o.largest)
unfolding count_of command_at
count_within o acc W =
    rw (count_as_run W 1 o.commands o.workers)
    (run_only_keeps count_after Within W 1 o.commands o.workers each (acc.workers.0, rw acc.largest (largest_from o.workers o.commands)))
  where
    Within : ℕ → Type 0
    Within n = (1 ≤ n) × (n ≤ o.largest)

    each : (k : ℕ) (c : Command) (n : ℕ) → Placed 1 o.commands k c → Within n → Within (count_after c n)
    each k c n at h =
        let most = (largest_fits o acc).1 in
        let high = h.1 in
        let fits = count_fits c n (acc.chutes k c (command_placed o.commands k c at)) (h.0, omega arith) in
        (fits.0, rw acc.largest (largest_covers o.workers o.commands at.offset c at.found n (rw (← acc.largest) h.1)))

module _ (o : Setup) (W : ℕ → Bool) (k : ℕ) (c : Command) (closed : ClosedDown o W) (at : command_at o.commands k ≡ some c) (out : W k ≡ false) where
  -- the count after one more command is that of the set with it
  pub count_next : count_after c (count_of o W) ≡ count_of o (upd W k true)
  unfolding count_of
  count_next =
      let p = placed o.commands k c at in
      rw (count_as_run W 1 o.commands o.workers, count_as_run (upd W k true) 1 o.commands o.workers)
      (next_effect count_after (λ (b : Command) (n : ℕ). n) are_dependent counts_commute W 1 o.commands k c o.workers p (closed_trace o W k c closed at) out
      (upd W k true) (upd_same W k true) (upd_other W k true))

  -- and before it, where every earlier command on which it depends is in the set, that of the commands delivered before it: none of the
  -- others sets a count
  pub count_found : EarlierIn o W k c → count_of o W ≡ count_before o k
  unfolding count_of
  count_found earlier =
      let p = placed o.commands k c at in
      let here : k ≡ 1 + p.offset = p.place in
      count_as_run W 1 o.commands o.workers
      ∙ (next_reply count_after (λ (b : Command) (n : ℕ). n) are_dependent counts_commute W 1 o.commands k c o.workers p (closed_trace o W k c closed at) out
      (λ j a q. earlier j a (command_placed o.commands j a q))
      ∙ (sym (run_only_before count_after p.offset 1 o.commands o.workers) ∙ (ap (λ (n : ℕ). run_only count_after (λ j. ltb j n) 1 o.commands o.workers) (sym here) ∙ sym (count_as_run (λ j. ltb j k) 1 o.commands o.workers))))
