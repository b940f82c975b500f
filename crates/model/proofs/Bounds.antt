-- Bounds of what schedules reach: each key of the store is a command's or 0, and each answer is a number of two bytes. Assumes nothing.
use Rattle.std.specs.Prelude.{ℕ, zero, suc, ◌-◌, ◌<◌, ◌≡◌, refl, Bool, true, List, [], ◌∷◌, ◌++◌, map, length, get_or, replicate, eqb, leb}
use Rattle.std.proofs.Common.{arith}
use Rattle.std.proofs.Math.Option.{some}
use Rattle.std.proofs.Math.ListN.{get_elem?}
use Rattle.command.specs.declared.Kind.{Kind}
use Rattle.command.specs.declared.Kind.TheVariants.{Insert, Delete, Read, Update, Workers, Checkpoint}
use Rattle.command.specs.declared.Command.{Command}
use Rattle.command.proofs.Laws.{chute_that_fits}
use Rattle.model.specs.Serial.{Entry, Served, present, chute_at, serve_kind, serve, answers_after, serial_answers}
use Rattle.model.specs.Store.{lay_out}
use Rattle.model.specs.Setup.{Setup, command_at}
use Rattle.model.specs.Step.{opened, steps}
use Rattle.model.specs.Statement.{Accepted, all_within, wrote, EachCommand, serial_answer}
use Rattle.command.proofs.Tests.{cond_cases}
use Rattle.model.proofs.Serial.{all_map, all_put_in, all_take_out, all_set_chute, serve_keeps}
use Rattle.model.specs.Serial.{All}
use Rattle.model.proofs.Service.{entries_of, entries_keep}
use Rattle.model.proofs.Theorem.{table_at_any_moment, demand_3}

-- ---- entries

-- a command brings in no entry but its own key and chute
serve_each : (P : Entry → Type 0) (capacity : ℕ) (c : Command) (es : List Entry) → P (record { key = c.key; chute = c.chute }) → All P es
    → All P (serve capacity c es).entries
serve_each P capacity c es own h =
    serve_keeps (All P) capacity c es h (λ _ _ _. all_put_in P _ es own h) (λ _. all_take_out P _ es h) (λ _. all_set_chute P _ _ es (λ _ _ _. own) h)

-- so what holds of each command's key and chute, and of each entry at first, holds of each entry
pub entries_each : (P : Entry → Type 0) (o : Setup) (W : ℕ → Bool)
    → ((k : ℕ) (c : Command) → command_at o.commands k ≡ some c → P (record { key = c.key; chute = c.chute })) → All P o.entries → All P (entries_of o W)
entries_each P o W own = entries_keep (All P) o W (λ k c es at. serve_each P o.capacity c es (own k c at))

-- the key at a place is an entry's, or one of the zeros past them
laid_each : (P : ℕ → Type 0) (n : ℕ) (es : List Entry) → P 0 → All (λ (e : Entry). P e.key) es → (i : ℕ)
    → P (get_or (map (λ (e : Entry). e.key) es ++ replicate n 0) i 0)
laid_each P zero [] none h i = none
laid_each P (suc n) [] none h zero = none
laid_each P (suc n) [] none h (suc i) = laid_each P n [] none h i
laid_each P n (e ∷ es) none h zero = h.0
laid_each P n (e ∷ es) none h (suc i) = laid_each P n es none h.1 i

keys_each : (P : ℕ → Type 0) (capacity : ℕ) (es : List Entry) → P 0 → All (λ (e : Entry). P e.key) es → (i : ℕ) → P (get_or (lay_out capacity es).keys i 0)
unfolding lay_out
keys_each P capacity es = laid_each P (capacity - length es) es

-- ---- answers

-- every chute is a number of two bytes
abbrev ChutesFit : List Entry → Type 0
ChutesFit es = All (λ (e : Entry). e.chute < 65536) es

-- the chute of a key is an entry's, or 0
chute_at_fits : (key : ℕ) (es : List Entry) → ChutesFit es → chute_at key es < 65536
unfolding chute_at
chute_at_fits key [] h = omega arith
chute_at_fits key (e ∷ es) h = cond_cases (λ (n : ℕ). n < 65536) (eqb e.key key) (λ _. h.0) (λ _. chute_at_fits key es h.1)

-- an answer is a chute found, or one of the few numbers from 1000 on
answer_fits : (k : Kind) (capacity key chute : ℕ) (es : List Entry) → ChutesFit es → (serve_kind k capacity key chute es).answer < 65536
unfolding serve_kind
answer_fits Insert capacity key chute es h =
    cond_cases (λ (s : Served). s.answer < 65536) (present key es) (λ _. omega arith)
    (λ _. cond_cases (λ (s : Served). s.answer < 65536) (leb capacity (length es)) (λ _. omega arith) (λ _. omega arith))
answer_fits Delete capacity key chute es h = cond_cases (λ (s : Served). s.answer < 65536) (present key es) (λ _. omega arith) (λ _. omega arith)
answer_fits Read capacity key chute es h = cond_cases (λ (s : Served). s.answer < 65536) (present key es) (λ _. chute_at_fits key es h) (λ _. omega arith)
answer_fits Update capacity key chute es h = cond_cases (λ (s : Served). s.answer < 65536) (present key es) (λ _. omega arith) (λ _. omega arith)
answer_fits Workers capacity key chute es h = omega arith
answer_fits Checkpoint capacity key chute es h = omega arith

answers_fit : (capacity : ℕ) (cs : List Command) (es : List Entry) (n : ℕ) → ChutesFit es
    → ((j : ℕ) (c : Command) → get_elem? cs j ≡ some c → c.chute < 65536) → get_or (answers_after capacity cs es) n 0 < 65536
unfolding answers_after serve
answers_fit capacity [] es n h fit = omega arith
answers_fit capacity (c ∷ cs) es zero h fit = answer_fits c.kind capacity c.key c.chute es h
answers_fit capacity (c ∷ cs) es (suc n) h fit =
    answers_fit capacity cs (serve capacity c es).entries n (serve_each (λ (e : Entry). e.chute < 65536) capacity c es (fit 0 c refl) h) (λ j. fit (suc j))

-- the serial run's answers are such, since a chute that fits its kind is at most 512
pub serial_fits : (o : Setup) → Accepted o → (c : ℕ) → serial_answer o c < 65536
unfolding serial_answer serial_answers command_at
serial_fits o acc zero = omega arith
serial_fits o acc (suc n) =
    answers_fit o.capacity o.commands o.entries n (all_map (λ e h. omega (arith, h.1)) o.entries acc.entries.chutes) (λ j c at. omega (arith, chute_that_fits c.kind c.chute (acc.chutes (suc j) c at)))

-- ---- what a schedule reaches

module _ (o : Setup) (acc : Accepted o) (ts : List ℕ) (within : all_within o.largest ts ≡ true) where
  -- what holds of 0, of each command's key and of each entry's at first holds of each key of the store
  pub reached_keys : (P : ℕ → Type 0) → P 0 → ((k : ℕ) (c : Command) → command_at o.commands k ≡ some c → P c.key) → All (λ (e : Entry). P e.key) o.entries → (i : ℕ)
      → P (get_or (steps o ts (opened o)).service.store.keys i 0)
  reached_keys P none own first i =
      rw (table_at_any_moment o acc ts within) (keys_each P o.capacity _ none (entries_each (λ (e : Entry). P e.key) o _ own first) i)

  -- each answer is 0 or the serial run's
  pub reached_answers : EachCommand o (λ c. (steps o ts (opened o)).service.answers c < 65536)
  reached_answers c low high =
      rw ((demand_3 o acc ts within).answer c low high)
      (cond_cases (λ (n : ℕ). n < 65536) (wrote o c ts (opened o)) (λ _. serial_fits o acc c) (λ _. omega arith))
