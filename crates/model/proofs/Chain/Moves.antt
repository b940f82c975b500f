-- A worker's move that neither loads nor clears nor changes what it executes: it keeps the invariant as soon as the threads stand right.
-- Assumes nothing.
use Rattle.std.specs.Prelude.{ℕ, ◌≤◌, ◌<◌, ◌≡◌, Bool, true}
use Rattle.std.proofs.Common.{arith, sym, ap, ◌∙◌, ⊎_elim}
use Rattle.std.proofs.Math.Option.{none, some}
use Rattle.model.specs.declared.Thread.{Thread}
use Rattle.model.specs.Upd.{upd}
use Rattle.model.specs.Setup.{Setup}
use Rattle.model.specs.Graph.{graph_of}
use Rattle.model.specs.Step.{State}
use Rattle.model.proofs.Upd.{upd_same, upd_other, upd_cases, upd_map}
use Rattle.model.proofs.Chain.Invariant.{Ghost, Inv, Standing, Walks, Roles, at, loads, executes, walks, clears, done, looked, found, is_loader, is_worker}
use Rattle.model.proofs.Chain.Kept.{kept, sets_kept, clears_kept, stays}

-- a thread keeps to its role
pub worker_role : {workers : ℕ} {threads : ℕ → Thread} (t : ℕ) (v : Thread) → 1 ≤ t → t ≤ workers → is_worker v ≡ true → Roles workers threads → Roles workers (upd threads t v)
worker_role {workers} {threads} t v low high w r = record {
  loader = ap is_loader (upd_other threads t v 0 (λ e. absurd (omega arith))) ∙ r.loader;
  worker = λ u h. ⊎_elim (λ k. ap is_worker k.1 ∙ w) (λ k. ap is_worker k.1 ∙ r.worker u h) (upd_cases threads t v u);
  rest = λ u h. upd_other threads t v u (λ e. absurd (omega arith)) ∙ r.rest u h;
}

pub loader_role : {workers : ℕ} {threads : ℕ → Thread} (v : Thread) → is_loader v ≡ true → Roles workers threads → Roles workers (upd threads 0 v)
loader_role {workers} {threads} v w r = record {
  loader = ap is_loader (upd_same threads 0 v) ∙ w;
  worker = λ u h. ap is_worker (upd_other threads 0 v u (λ e. absurd (omega arith))) ∙ r.worker u h;
  rest = λ u h. upd_other threads 0 v u (λ e. absurd (omega arith)) ∙ r.rest u h;
}

-- where the others stand before their own nodes and thread t does, all do
pub walks_moved : {seq : ℕ → ℕ} (threads : ℕ → Thread) (t : ℕ) (v : Thread) → ((x a : ℕ) → walks v ≡ some x → at v ≡ some a → seq a < seq x) →
    Walks seq (λ u. walks (threads u)) (λ u. at (threads u)) → Walks seq (λ u. walks (upd threads t v u)) (λ u. at (upd threads t v u))
walks_moved {seq} threads t v mine k = record {
  before = λ u x a p q. ⊎_elim (λ h. mine x a (ap walks (sym h.1) ∙ p) (ap at (sym h.1) ∙ q)) (λ h. k.before u x a (ap walks (sym h.1) ∙ p) (ap at (sym h.1) ∙ q)) (upd_cases threads t v u);
}

-- the state with other locks and another state of thread t
abbrev pub moved : State → (ℕ → Bool) → ℕ → Thread → State
moved s locks t v = record {
  graph = graph_of s.graph.next s.graph.seq s.graph.executing locks s.graph.waits s.graph.free s.graph.loaded;
  threads = upd s.threads t v;
  service = s.service;
}

module _ (o : Setup) (s : State) (g : Ghost) (i : Inv o s g) (t : ℕ) (v : Thread) (locks : ℕ → Bool)
    (no_load : loads (s.threads t) ≡ none) (no_load' : loads v ≡ none) (no_clear : clears (s.threads t) ≡ none) (no_clear' : clears v ≡ none)
    (same_executes : executes v ≡ executes (s.threads t)) (same_done : done v ≡ done (s.threads t))
    (same_looked : looked v ≡ looked (s.threads t)) (same_found : found v ≡ found (s.threads t))
    (standing : Standing g.linked locks (upd (λ u. at (s.threads u)) t (at v)))
    (walking : (x a : ℕ) → walks v ≡ some x → at v ≡ some a → s.graph.seq a < s.graph.seq x)
    (roles : Roles o.largest (upd s.threads t v)) where
  pub quiet_move : Inv o (moved s locks t v) g
  quiet_move = record {
    order = i.order;
    free_list = i.free_list;
    standing = rw (upd_map at s.threads t v) standing;
    executing = rw (kept executes s.threads t v same_executes) i.executing;
    walking = walks_moved s.threads t v walking i.walking;
    clearing = rw (kept clears s.threads t v (no_clear' ∙ sym no_clear), upd_map at s.threads t v)
        (clears_kept s.graph.seq g.linked s.graph.executing (λ u. clears (s.threads u)) (λ u. at (s.threads u)) (upd (λ u. at (s.threads u)) t (at v))
        (stays (λ u. at (s.threads u)) (λ u. clears (s.threads u)) t (at v) no_clear) i.clearing);
    loading = rw (kept loads s.threads t v (no_load' ∙ sym no_load)) i.loading;
    partition = rw (kept loads s.threads t v (no_load' ∙ sym no_load), kept clears s.threads t v (no_clear' ∙ sym no_clear)) i.partition;
    sets = rw (kept loads s.threads t v (no_load' ∙ sym no_load), kept clears s.threads t v (no_clear' ∙ sym no_clear), upd_map at s.threads t v)
        (sets_kept o s.graph.seq g.linked s.graph.executing s.graph.waits (λ u. at (s.threads u)) (upd (λ u. at (s.threads u)) t (at v)) (λ u. loads (s.threads u)) (λ u. clears (s.threads u))
        (stays (λ u. at (s.threads u)) (λ u. clears (s.threads u)) t (at v) no_clear) (stays (λ u. at (s.threads u)) (λ u. loads (s.threads u)) t (at v) no_load) i.sets);
    progress = rw (kept done s.threads t v same_done) i.progress;
    service = rw (kept looked s.threads t v same_looked, kept found s.threads t v same_found) i.service;
    roles = roles;
  }
