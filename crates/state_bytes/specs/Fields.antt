-- A set and a thread as they stand in bytes at an offset. Assumes nothing.
use Rattle.std.specs.Prelude.{ℕ, ◌+◌, ◌≡◌, List, [], ◌∷◌, length, get_or}
use Rattle.std.proofs.Common.{ap, arith, length-append}
use Rattle.node_set.specs.Members.{member, word_of}
use Rattle.model.specs.declared.Thread.{Thread}
use Rattle.model.specs.declared.Thread.TheVariants.{Idle, Loading, Searching, Holding, LookedUp, Written, Walking, Clearing}
use Rattle.byte_fields.specs.Bytes.{number_at}
use Rattle.byte_fields.specs.Widths.{number_width}
use Rattle.state_bytes.specs.Layout.{set_bytes, thread_of, thread_bytes}

-- the three words of a set
unfoldable pub set_in : ℕ → List ℕ → List ℕ
unfolding number_at
set_in at b = number_at 8 at b ∷ number_at 8 (at + 8) b ∷ number_at 8 (at + 16) b ∷ []

-- a thread's state, where it stands, its own node and what it found
unfoldable pub thread_in : ℕ → List ℕ → Thread
unfolding thread_of number_at
thread_in at b = thread_of (get_or b at 0) (get_or b (at + 1) 0) (get_or b (at + 2) 0) (number_at 2 (at + 3) b)

-- each takes as many bytes as any other
pub set_width : (set : List ℕ) → length (set_bytes (member set)) ≡ 24
unfolding set_bytes
set_width set =
    let one = number_width 8 (word_of 64 (member set)) in
    let two = number_width 8 (word_of 64 (λ b. member set (64 + b))) in
    let three = number_width 8 (word_of 64 (λ b. member set (128 + b))) in
    omega (arith, length-append {A = ℕ}, one, two, three)

pub thread_width : (thread : Thread) → length (thread_bytes thread) ≡ 5
unfolding thread_bytes
thread_width Idle = ap (λ n. 3 + n) (number_width 2 0)
thread_width (Loading at own) = ap (λ n. 3 + n) (number_width 2 0)
thread_width (Searching at) = ap (λ n. 3 + n) (number_width 2 0)
thread_width (Holding own) = ap (λ n. 3 + n) (number_width 2 0)
thread_width (LookedUp own found) = ap (λ n. 3 + n) (number_width 2 found)
thread_width (Written own) = ap (λ n. 3 + n) (number_width 2 0)
thread_width (Walking at own) = ap (λ n. 3 + n) (number_width 2 0)
thread_width (Clearing at own) = ap (λ n. 3 + n) (number_width 2 0)
