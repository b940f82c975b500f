-- Each part of a step, a graph with one thing changed, keeps the graph's shape, as long as what is written fits where it is written.
-- Assumes nothing.
use Rattle.std.specs.Prelude.{ℕ, ◌≤◌, ◌≡◌, Bool, true, length}
use Rattle.std.proofs.Common.{arith, ⊎_elim}
use Rattle.model.specs.declared.Thread.{Thread}
use Rattle.model.specs.Upd.{upd}
use Rattle.model.specs.Setup.{Setup}
use Rattle.model.specs.Graph.{Graph, set_next, set_seq, set_executing, set_locked, set_waits, set_free, set_loaded}
use Rattle.model.specs.Service.{Service}
use Rattle.model.specs.Step.{State, move_to, serve_to}
use Rattle.model.proofs.Upd.{upd_same, upd_cases}
use Rattle.model.proofs.Formed.{NumberAt, FlagAt, SetAt, ThreadAt, SetupFormed, GraphFormed, ServiceFormed, Formed}

-- what every value of a function has at its place, every value of the updated function has, if the new value has it at its place
pub upd_keeps : {A : Type 0} (P : ℕ → A → Type 0) {f : ℕ → A} (i : ℕ) {v : A} → P i v → ((n : ℕ) → P n (f n)) → (n : ℕ) → P n (upd f i v n)
upd_keeps P {f} i {v} new old n =
    ⊎_elim (λ h. rw h.0 (rw (upd_same f i v) new)) (λ h. rw h.1 (old n)) (upd_cases f i v n)

-- ---- a thread's step

module _ {o : Setup} {s : State} (k : Formed o s) (t : ℕ) (v : Thread) (h : ThreadAt o.size t v) where
  pub moved_formed : {g : Graph} → GraphFormed o g → Formed o (move_to t v g s)
  unfolding move_to
  moved_formed new = record { graph = new; threads = upd_keeps (ThreadAt o.size) t h k.threads; service = k.service }

  pub served_formed : {w : Service} → ServiceFormed o w → Formed o (serve_to t v w s)
  unfolding serve_to
  served_formed new = record { graph = k.graph; threads = upd_keeps (ThreadAt o.size) t h k.threads; service = new }

-- ---- each setter changes one part, at a place that the part has

module _ (o : Setup) (fit : SetupFormed o) where
  -- no node of the graph is past node 150
  not_past : {A : Type 0} (n : ℕ) → n ≤ o.size → 151 ≤ n → A
  not_past n h p = absurd (omega (arith, fit.size))

  module _ {g : Graph} (k : GraphFormed o g) where
    pub next_set : (n m : ℕ) → n ≤ o.size → m ≤ o.size → GraphFormed o (set_next n m g)
    unfolding set_next
    next_set n m h j = record {
      next = upd_keeps (NumberAt o.size) n (j, not_past n h) k.next;
      seq = k.seq;
      executing = k.executing;
      locked = k.locked;
      waits = k.waits;
      free = k.free;
      loaded = k.loaded;
    }

    pub seq_set : (n c : ℕ) → n ≤ o.size → c ≤ length o.commands → GraphFormed o (set_seq n c g)
    unfolding set_seq
    seq_set n c h j = record {
      next = k.next;
      seq = upd_keeps (NumberAt (length o.commands)) n (j, not_past n h) k.seq;
      executing = k.executing;
      locked = k.locked;
      waits = k.waits;
      free = k.free;
      loaded = k.loaded;
    }

    pub executing_set : (n : ℕ) (b : Bool) → n ≤ o.size → GraphFormed o (set_executing n b g)
    unfolding set_executing
    executing_set n b h = record {
      next = k.next;
      seq = k.seq;
      executing = upd_keeps FlagAt n (not_past n h) k.executing;
      locked = k.locked;
      waits = k.waits;
      free = k.free;
      loaded = k.loaded;
    }

    pub locked_set : (n : ℕ) (b : Bool) → n ≤ o.size → GraphFormed o (set_locked n b g)
    unfolding set_locked
    locked_set n b h = record {
      next = k.next;
      seq = k.seq;
      executing = k.executing;
      locked = upd_keeps FlagAt n (not_past n h) k.locked;
      waits = k.waits;
      free = k.free;
      loaded = k.loaded;
    }

    pub waits_set : (n : ℕ) (set : ℕ → Bool) → n ≤ o.size → ((y : ℕ) → set y ≡ true → y ≤ o.size) → GraphFormed o (set_waits n set g)
    unfolding set_waits
    waits_set n set h j = record {
      next = k.next;
      seq = k.seq;
      executing = k.executing;
      locked = k.locked;
      waits = upd_keeps (SetAt o.size) n (j, λ y p. not_past n h p) k.waits;
      free = k.free;
      loaded = k.loaded;
    }

    pub free_set : (n : ℕ) → n ≤ o.size → GraphFormed o (set_free n g)
    unfolding set_free
    free_set n h =
        record { next = k.next; seq = k.seq; executing = k.executing; locked = k.locked; waits = k.waits; free = h; loaded = k.loaded }

    pub loaded_set : (c : ℕ) → c ≤ length o.commands → GraphFormed o (set_loaded c g)
    unfolding set_loaded
    loaded_set c h =
        record { next = k.next; seq = k.seq; executing = k.executing; locked = k.locked; waits = k.waits; free = k.free; loaded = h }
