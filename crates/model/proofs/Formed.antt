-- Which states have the shape that the arrays and the layout have: node numbers up to the graph size, sequence numbers up to the last
-- command, nothing past record 150 and thread 64, a store as long as the capacity. Every step keeps it, on states that no schedule reaches
-- too. Assumes nothing.
pub mod Store
pub mod Set
pub mod Keep
pub mod Opening
use Rattle.std.specs.Prelude.{ℕ, ◌≤◌, ◌<◌, ◌≡◌, Bool, true, false, length}
use Rattle.std.proofs.Math.Option.{some}
use Rattle.command.specs.declared.Command.{Command}
use Rattle.command.specs.Read.{chute_fits}
use Rattle.model.specs.declared.Thread.{Thread}
use Rattle.model.specs.declared.Thread.TheVariants.{Idle, Loading, Searching, Holding, LookedUp, Written, Walking, Clearing}
use Rattle.model.specs.Setup.{Setup, command_at}
use Rattle.model.specs.Graph.{Graph}
use Rattle.model.specs.Image.{image_length}
use Rattle.model.specs.Service.{Service}
use Rattle.model.specs.Step.{State}
use Rattle.model.proofs.Chain.Invariant.{is_loader, is_worker}
use Rattle.model.proofs.Formed.Store.{StoreFormed}

-- a thread's nodes are numbers up to the graph size, and what it found is a number of two bytes
abbrev pub ThreadFormed : ℕ → Thread → Type 0
ThreadFormed size Idle = Unit {0}
ThreadFormed size (Loading at own) = (at.0 ≤ size) × (own.0 ≤ size)
ThreadFormed size (Searching at) = at.0 ≤ size
ThreadFormed size (Holding own) = own.0 ≤ size
ThreadFormed size (LookedUp own found) = (own.0 ≤ size) × (found < 65536)
ThreadFormed size (Written own) = own.0 ≤ size
ThreadFormed size (Walking at own) = (at.0 ≤ size) × (own.0 ≤ size)
ThreadFormed size (Clearing at own) = (at.0 ≤ size) × (own.0 ≤ size)

-- a setup whose numbers the layout holds
pub record SetupFormed (o : Setup) : Type 0 where
  pub size : o.size ≤ 150
  pub workers : o.workers ≤ 64
  pub largest : o.largest ≤ 64
  pub capacity : o.capacity ≤ 4096
  pub count : length o.commands ≤ 4096
  pub chutes : (c : ℕ) (cmd : Command) → command_at o.commands c ≡ some cmd → chute_fits cmd.kind cmd.chute ≡ true

-- of a node: a number up to a bound, a flag, a set of nodes; nothing past node 150
abbrev pub NumberAt : ℕ → ℕ → ℕ → Type 0
NumberAt bound n x = (x ≤ bound) × (151 ≤ n → x ≡ 0)

abbrev pub FlagAt : ℕ → Bool → Type 0
FlagAt n b = 151 ≤ n → b ≡ false

abbrev pub SetAt : ℕ → ℕ → (ℕ → Bool) → Type 0
SetAt size n set = ((y : ℕ) → set y ≡ true → y ≤ size) × ((y : ℕ) → 151 ≤ n → set y ≡ false)

-- of a thread: its nodes, its role, and idle past thread 64
abbrev pub ThreadAt : ℕ → ℕ → Thread → Type 0
ThreadAt size t v = ThreadFormed size v × (65 ≤ t → v ≡ Idle) × (t ≡ 0 → is_loader v ≡ true) × (1 ≤ t → is_worker v ≡ true)

-- of an answer: there is none for command 0 and none past the last command
abbrev pub AnswerAt : ℕ → ℕ → ℕ → Type 0
AnswerAt count c a = (c ≡ 0 → a ≡ 0) × (count < c → a ≡ 0)

-- ---- a state's groups

pub record GraphFormed (o : Setup) (g : Graph) : Type 0 where
  pub next : (n : ℕ) → NumberAt o.size n (g.next n)
  pub seq : (n : ℕ) → NumberAt (length o.commands) n (g.seq n)
  pub executing : (n : ℕ) → FlagAt n (g.executing n)
  pub locked : (n : ℕ) → FlagAt n (g.locked n)
  pub waits : (n : ℕ) → SetAt o.size n (g.waits n)
  pub free : g.free ≤ o.size
  pub loaded : g.loaded ≤ length o.commands

pub record ServiceFormed (o : Setup) (v : Service) : Type 0 where
  pub store : StoreFormed o.capacity v.store
  pub answers : (c : ℕ) → AnswerAt (length o.commands) c (v.answers c)
  pub limit : (1 ≤ v.limit) × (v.limit ≤ 64)
  pub image : length v.image ≡ image_length o.capacity

pub record Formed (o : Setup) (s : State) : Type 0 where
  pub graph : GraphFormed o s.graph
  pub threads : (t : ℕ) → ThreadAt o.size t (s.threads t)
  pub service : ServiceFormed o s.service
