-- A `&κ mut [T]` or a `&κ mut T` that is lent again for a call, and comes back, each as one step of a walk.
--     lend, lend_ref     [what x owns at κ; [κ]_q; Γ]   from   [what x owns at ν, under the name δ; [ν]; what waits; Γ]   for new ν and δ
--     back, back_ref     [its last value under δ; [ν]; what waits; Γ]   to   [what x owns at κ, at its last value; [κ]_q; Γ]
-- What a callee leaves of a `&mut` that its contract keeps is the last value and the borrow, closed, as one entry: `fsplit`, and drop the borrow, before `back`, `back_ref`, and `Own.antt`'s `back_own` and `back_array`.
use mathlib.Core.Path.{◌≡◌, refl, sym, subst}
use Prim.Native.Nat.{ℕ}
use mathlib.Core.List.{List, [], ◌∷◌}
use lib.ListN.{length}
use seplogic.Ra.Ura.{Ura}
use base.Fraction.{full_share}
use mir.Syntax.{erased}
use base.Fml.{Lft, GName, Share, fsep, feq, flft, fres}
use types.Logic.{Logic}
use types.Kit.{Goal, Soaks, Item, ‵, rewrite, ◌⊛◌, some, later, Seq, Step, step, ◌$◌, move, use2, use3, split, pick, await, fsplit, feq_l}
use types.Tokens.{lft_new, lft_end}
use denote.RattleType.{RattleType}
use denote.Ref.{MutBor, MutRef, at_last, mut_vals}
use denote.Lend as Ref
use denote.Slice.{slice_val, MutSlice, Room, finally}
use Rattle.walks.proofs.Again.{LentAgain, lends_again, comes_back}

-- a reference under another name
abbrev pub named_as : {X : Type 0} → MutBor X → GName → MutBor X
named_as x δ = record { ref_ptr = x.ref_ptr; ghost_name = δ; now = x.now }

-- what a slice owns at κ, where its machine value has the count m, and what waits while it is lent
abbrev pub slice : {M : Type 1} (𝓤 : Ura M) (R : RattleType) → Lft → MutBor (List R.Denot) → ℕ → Item 𝓤
slice 𝓤 R κ x m = ‵ ((MutSlice erased κ R).own_val x (slice_val x.ref_ptr m ∷ []))

abbrev pub waits : {M : Type 1} (𝓤 : Ura M) (R : RattleType) → Lft → Share → MutBor (List R.Denot) → ℕ → GName → Item 𝓤
waits 𝓤 R κ q x ν δ = ‵ (LentAgain R κ (ν ∷ []) q x.ghost_name x.ref_ptr.0 x.ref_ptr.1 δ x.now)

module _ {M : Type 1} {𝓤 : Ura M} {𝓛 : Logic 𝓤} {K : Type 0} {Γ : List (Item 𝓤)} {G : Goal 𝓤 𝓛.H} where
  pub lend : K → Soaks G → (R : RattleType) (κ : Lft) (q : Share) (x : MutBor (List R.Denot)) (m : ℕ) → length x.now ≡ m
      → ((ν : ℕ) (δ : GName) → Seq K 𝓛 (slice 𝓤 R (ν ∷ []) (named_as x δ) m ∷ ‵ (flft (ν ∷ []) full_share) ∷ waits 𝓤 R κ q x ν δ ∷ Γ) G)
      → Seq K 𝓛 (slice 𝓤 R κ x m ∷ ‵ (flft κ q) ∷ Γ) G
  lend t z R κ q x m e k =
      rewrite t 0 (λ (c : ℕ). slice 𝓤 R κ x c) (sym e) refl $
      lft_new t z (λ ν. move t (1 ∷ 2 ∷ []) $
      use2 𝓛 (later (some (λ (δ : GName). slice 𝓤 R (ν ∷ []) (named_as x δ) (length x.now) ⊛ waits 𝓤 R κ q x ν δ)))
      (lends_again R κ (ν ∷ []) q x.ghost_name x.ref_ptr.0 x.ref_ptr.1 𝓛 erased erased x.now) $ await t z $ pick t (λ δ. split t $
      rewrite t 0 (λ (c : ℕ). slice 𝓤 R (ν ∷ []) (named_as x δ) c) e refl $ move t (0 ∷ 2 ∷ []) $ k ν δ))

  pub back : K → Soaks G → (R : RattleType) (κ : Lft) (q : Share) (x : MutBor (List R.Denot)) (zs : List R.Denot) (ν : ℕ) (δ : GName) (m : ℕ) → Room R m → length x.now ≡ m
      → (length zs ≡ length x.now → Seq K 𝓛 (slice 𝓤 R κ (at_last x zs) m ∷ ‵ (flft κ q) ∷ Γ) G)
      → Seq K 𝓛 (‵ (fsep (finally R δ zs) (feq ℕ (length zs) (length x.now))) ∷ ‵ (flft (ν ∷ []) full_share) ∷ waits 𝓤 R κ q x ν δ ∷ Γ) G
  back t z R κ q x zs ν δ m room e k = fsplit t $ move t (1 ∷ []) $ feq_l t (λ l. move t (1 ∷ []) $ lft_end t z $ move t (0 ∷ 2 ∷ 1 ∷ []) $
      use3 𝓛 (later (slice 𝓤 R κ (at_last x zs) (length x.now) ⊛ ‵ (flft κ q))) (comes_back R κ (ν ∷ []) q x.ghost_name x.ref_ptr.0 x.ref_ptr.1 𝓛 erased erased x.now δ zs
      (subst (Room R) (sym e) room) l) $ await t z $ split t $
      rewrite t 0 (λ (c : ℕ). slice 𝓤 R κ (at_last x zs) c) e refl $ k l)

  pub lend_ref : K → Soaks G → (R : RattleType) (κ : Lft) (q : Share) (x : MutBor R.Denot)
      → ((ν : ℕ) (δ : GName) → Seq K 𝓛 (‵ ((MutRef erased (ν ∷ []) R).own_val (named_as x δ) (mut_vals x)) ∷ ‵ (flft (ν ∷ []) full_share) ∷ ‵
      (Ref.LentAgain R κ (ν ∷ []) q x.ghost_name x.ref_ptr.0 x.ref_ptr.1 δ x.now) ∷ Γ) G)
      → Seq K 𝓛 (‵ ((MutRef erased κ R).own_val x (mut_vals x)) ∷ ‵ (flft κ q) ∷ Γ) G
  lend_ref t z R κ q x k = lft_new t z (λ ν. move t (1 ∷ 2 ∷ []) $
      use2 𝓛 (later (some (λ (δ : GName). ‵ ((MutRef erased (ν ∷ []) R).own_val (named_as x δ) (mut_vals x)) ⊛ ‵ (Ref.LentAgain R κ (ν ∷ []) q x.ghost_name x.ref_ptr.0 x.ref_ptr.1 δ x.now))))
      (Ref.lends_again 𝓛 R erased κ (ν ∷ []) q x.ghost_name x.ref_ptr.0 x.ref_ptr.1 erased x.now) $ await t z $ pick t (λ δ. split t $
      move t (0 ∷ 2 ∷ []) $ k ν δ))

  pub back_ref : K → Soaks G → (R : RattleType) (κ : Lft) (q : Share) (x : MutBor R.Denot) (y : R.Denot) (ν : ℕ) (δ : GName)
      → Step K 𝓛 (‵ ((MutRef erased κ R).own_val (at_last x y) (mut_vals x)) ∷ ‵ (flft κ q) ∷ Γ) G
      (‵ (fres δ (R.coded.code y)) ∷ ‵ (flft (ν ∷ []) full_share) ∷ ‵ (Ref.LentAgain R κ (ν ∷ []) q x.ghost_name x.ref_ptr.0 x.ref_ptr.1 δ x.now) ∷ Γ) G
  back_ref t z R κ q x y ν δ = step (λ s. move t (1 ∷ []) $ lft_end t z $ move t (0 ∷ 2 ∷ 1 ∷ []) $
      use3 𝓛 (later (‵ ((MutRef erased κ R).own_val (at_last x y) (mut_vals x)) ⊛ ‵ (flft κ q))) (Ref.comes_back 𝓛 R erased κ (ν ∷ []) q x.ghost_name x.ref_ptr.0 x.ref_ptr.1 δ x.now y) $ await t z $
      split t $ s)
