-- `state_bytes::fits::tested` meets its contract. Assumes nothing.
use Prim.Native.Nat.{ℕ}
use mathlib.Core.Bool.{Bool, true}
use mathlib.Core.List.{List}
use mathlib.Core.Path.{◌≡◌, refl, ◌∙◌}
use lib.ListN.{length, replicate, length-replicate}
use Rattle.state_bytes.specs.Layout.{Lists, all_lists, state_length, handed_back_fit}
use Rattle.state_bytes.proofs.Passed.{lengths_passed}
use Rattle.state_bytes.proofs.fits.tested.Goals as goal

-- lists that fit have a state as long as the layout asks
state_is_whole : (b : List ℕ) (answers keys chutes commands : ℕ) (r : Bool)
    → ((l : Lists) (list : List ℕ) → l.state ≡ b → length l.answers ≡ answers → length l.keys ≡ keys → length l.chutes ≡ chutes → length list ≡ commands → handed_back_fit l list ≡ r)
    → r ≡ true → length b ≡ state_length
state_is_whole b answers keys chutes commands r fits passes =
    let l = all_lists b (replicate keys 0) (replicate chutes 0) (replicate answers 0) (replicate 0 0) in
    let list : List ℕ = replicate commands 0 in
    (lengths_passed l list (fits l list refl (length-replicate answers 0) (length-replicate keys 0) (length-replicate chutes 0) (length-replicate commands 0) ∙ passes)).state

pub state_fits-requires : goal.state_fits-requires
state_fits-requires c = state_is_whole _ _ _ _ _ _ c.lengths_fit.ensures c.if-not-lengths_fit.false
