-- A local struct that is lent by `&mut`, and a local array that is lent as a slice: each comes back as a cell that holds something.
use mathlib.Core.Path.{◌≡◌, refl, sym, subst}
use Prim.Native.Nat.{ℕ}
use mathlib.Core.List.{List, [], ◌∷◌}
use lib.ListN.{length}
use seplogic.Ra.Ura.{Ura}
use base.Fraction.{full_share}
use mir.Syntax.{ty_array, erased}
use mir.Val.{Val, vptr}
use base.Logic.{ent, emp, ex}
use base.Fml.{GName, fsep, feq, fat, flft, flent, fres}
use types.Logic.{Logic, sem}
use types.Kit.{Goal, Soaks, Item, Seq, Step, step, ‵, some, later, ◌⊛◌, ◌$◌, ◌∵◌, !, qed, by, move, use0, use1, use3, drop, rewrite, split, pick, await, fsplit, fjoin, fpick, fpack, feq_l, show, keep, done}
use types.SemTy.{cells, Arr, Body}
use types.Share.{arr_parts}
use types.Tokens.{lft_new, lft_end}
use denote.RattleType.{RattleType}
use denote.Laws.{Is, shows}
use denote.Lend.{Held, lends_ref, ref_back, lends_slice, slice_back}
use denote.Memory.{cell_at, lone, part_at, mem, shares, part_of}
use denote.Array.{array_val, Array}
use denote.ArrayMemory.{Single, Array-apart, Array-whole}
use denote.Index.{row as elements, whole_out, whole_in}
use denote.Ref.{MutBor, MutRef}
use denote.Slice.{Room, finally}
use denote.Struct.Declared.{Declared, row}
use denote.Struct.Steps.{spelt}
use denote.Struct.Laws as LL
use Rattle.walks.proofs.Lent.{slice}

-- a reference to a whole local
abbrev pub ref_to : {X : Type 0} → ℕ → GName → X → MutBor X
ref_to b δ x = record { ref_ptr = (b, 0); ghost_name = δ; now = x }

module _ {M : Type 1} {𝓤 : Ura M} (𝓛 : Logic 𝓤) where
  module _ (T : Declared) (L : LL.Laws T) where
    one_apart : (h : T.D) (b : ℕ) → ent 𝓤 (emp 𝓤) (sem 𝓛 ((row T).own_val h (LL.vals T L h))) → ent 𝓤 (sem 𝓛 (fat full_share (lone (row T).mir) b 0 (LL.val T L h)))
        (sem 𝓛 ((mem (row T)).own_at h b 0))
    unfolding part_of
    one_apart h b own =
        qed 𝓛 (‵ (fat full_share (lone (row T).mir) b 0 (LL.val T L h)) ∷ []) ∵ use1 𝓛 (‵ (cell_at full_share (row T).mir (LL.vals T L h) b 0))
        (𝓛.laws.at_raw full_share (lone (row T).mir) b 0 (LL.val T L h)) $
        use0 𝓛 (‵ ((row T).own_val h (LL.vals T L h))) own $ move ! (1 ∷ 0 ∷ []) $ fjoin ! $ fpack ! (List Val) (λ us. fsep (cell_at full_share (row T).mir us b 0) ((row T).own_val h us)) (LL.vals T L h) $
        done !

    one_whole : (h : T.D) (b : ℕ) → ent 𝓤 (sem 𝓛 ((mem (row T)).own_at h b 0)) (sem 𝓛 (fat full_share (lone (row T).mir) b 0 (LL.val T L h)))
    unfolding part_of
    one_whole h b =
        qed 𝓛 (‵ ((mem (row T)).own_at h b 0) ∷ []) ∵ fpick ! (λ vs. fsplit ! $ spelt ! (row T) (Is (row T)) (shows 𝓛 (row T)) (LL.vals T L) (LL.tells T L) full_share h vs b 0 $
        use1 𝓛 (‵ (fat full_share (lone (row T).mir) b 0 (LL.val T L h))) (𝓛.laws.raw_at full_share (lone (row T).mir) b 0 (LL.val T L h)) $ keep ! (0 ∷ []) $ done !)

  module _ (R : RattleType) (n : ℕ) where
    apart : Single R.mir → (xs : List R.Denot) (w : Val) (b : ℕ) → ent 𝓤 (emp 𝓤) (sem 𝓛 ((Array R n).own_val xs (w ∷ []))) → ent 𝓤 (sem 𝓛 (fat full_share (ty_array (lone R.mir) n) b 0 w))
        (sem 𝓛 (cells (mem R) xs b 0))
    unfolding part_of
    apart one xs w b own =
        qed 𝓛 (‵ (fat full_share (ty_array (lone R.mir) n) b 0 w) ∷ []) ∵ use1 𝓛 (‵ (cell_at full_share (Array R n).mir (w ∷ []) b 0)) (𝓛.laws.at_raw full_share (ty_array (lone R.mir) n) b 0 w) $
        use0 𝓛 (‵ ((Array R n).own_val xs (w ∷ []))) own $ move ! (1 ∷ 0 ∷ []) $ fjoin ! $ fpack ! (List Val) (λ us. fsep (cell_at full_share (Array R n).mir us b 0) ((Array R n).own_val xs us)) (w ∷ []) $
        use1 𝓛 (‵ ((arr_parts (shares R) n).part full_share xs b 0)) (Array-apart 𝓛 R full_share one n xs b 0) $ fsplit ! $ drop ! $ by ! (whole_in 𝓛 R xs b 0)

    whole : (zs : List R.Denot) (b : ℕ) → ent 𝓤 (sem 𝓛 ((Arr (mem R) n).own_at zs b 0)) (ex 𝓤 (λ (w : Val). sem 𝓛 (fat full_share (ty_array (lone R.mir) n) b 0 w)))
    unfolding part_of
    whole zs b =
        qed 𝓛 (‵ ((Arr (mem R) n).own_at zs b 0) ∷ []) ∵ fsplit ! $ move ! (1 ∷ []) $ use1 𝓛 (‵ (elements R full_share zs b 0)) (whole_out 𝓛 R zs b 0) $ move ! (1 ∷ 0 ∷ []) $ fjoin ! $
        use1 𝓛 (‵ (part_at (Array R n) full_share zs b 0)) (Array-whole 𝓛 R full_share n zs b 0) $
        fpick ! (λ vs. fsplit ! $ move ! (1 ∷ []) $ fpick ! (λ us. fsplit ! $ fsplit ! $ feq_l ! (λ e. feq_l ! (λ l.
        rewrite ! 1 (λ (ws : List Val). ‵ (cell_at full_share (ty_array (lone R.mir) n ∷ []) ws b 0)) e refl $ move ! (1 ∷ []) $
        use1 𝓛 (‵ (fat full_share (ty_array (lone R.mir) n) b 0 (array_val us))) (𝓛.laws.raw_at full_share (ty_array (lone R.mir) n) b 0 (array_val us)) $ keep ! (0 ∷ []) $
        show ! (λ (w : Val). sem 𝓛 (fat full_share (ty_array (lone R.mir) n) b 0 w)) (array_val us) $ done !))))

module _ {M : Type 1} {𝓤 : Ura M} {𝓛 : Logic 𝓤} {K : Type 0} {Γ : List (Item 𝓤)} {G : Goal 𝓤 𝓛.H} where
  pub lend_own : K → Soaks G → (T : Declared) (L : LL.Laws T) (h : T.D) (b : ℕ) → ent 𝓤 (emp 𝓤) (sem 𝓛 ((row T).own_val h (LL.vals T L h)))
      → ((ν : ℕ) (δ : GName) → Seq K 𝓛 (‵ ((MutRef erased (ν ∷ []) (row T)).own_val (ref_to b δ h) (vptr b 0 ∷ [])) ∷ ‵ (flft (ν ∷ []) full_share) ∷ ‵ (flent (ν ∷ []) (Body (mem (row T)) b 0 δ)) ∷ Γ) G)
      → Seq K 𝓛 (‵ (fat full_share (lone (row T).mir) b 0 (LL.val T L h)) ∷ Γ) G
  lend_own t z T L h b own k = use1 𝓛 (‵ ((mem (row T)).own_at h b 0)) (one_apart 𝓛 T L h b own) $ lft_new t z (λ ν. move t (1 ∷ []) $
      use1 𝓛 (later (some (λ (δ : GName). ‵ ((MutRef erased (ν ∷ []) (row T)).own_val (ref_to b δ h) (vptr b 0 ∷ [])) ⊛ ‵ (flent (ν ∷ []) (Body (mem (row T)) b 0 δ)))))
      (lends_ref 𝓛 (row T) erased (ν ∷ []) h b 0) $ await t z $ pick t (λ δ. split t $
      move t (0 ∷ 2 ∷ []) $ k ν δ))

  pub back_own : K → Soaks G → (T : Declared) (L : LL.Laws T) (h : T.D) (b ν : ℕ) (δ : GName)
      → Step K 𝓛 (‵ (fat full_share (lone (row T).mir) b 0 (LL.val T L h)) ∷ Γ) G (‵ (fres δ ((row T).coded.code h)) ∷ ‵ (flft (ν ∷ []) full_share) ∷ ‵ (flent (ν ∷ []) (Body (mem (row T)) b 0 δ)) ∷ Γ)
      G
  back_own t z T L h b ν δ = step (λ s. move t (1 ∷ []) $ lft_end t z $ move t (0 ∷ 2 ∷ 1 ∷ []) $
      use3 𝓛 (later (‵ ((mem (row T)).own_at h b 0))) (ref_back 𝓛 (row T) (ν ∷ []) δ h b 0) $ await t z $ use1 𝓛 (‵ (fat full_share (lone (row T).mir) b 0 (LL.val T L h)))
      (one_whole 𝓛 T L h b) $ s)

  pub lend_array : K → Soaks G → (R : RattleType) (n : ℕ) → Single R.mir → (xs : List R.Denot) (w : Val) (b : ℕ) → length xs ≡ n → Room R n → ent 𝓤 (emp 𝓤)
      (sem 𝓛 ((Array R n).own_val xs (w ∷ [])))
      → ((ν : ℕ) (δ : GName) → Seq K 𝓛 (slice 𝓤 R (ν ∷ []) (ref_to b δ xs) n ∷ ‵ (flft (ν ∷ []) full_share) ∷ ‵ (flent (ν ∷ []) (Held R (length xs) b 0 δ)) ∷ Γ) G)
      → Seq K 𝓛 (‵ (fat full_share (ty_array (lone R.mir) n) b 0 w) ∷ Γ) G
  lend_array t z R n one xs w b e room own k = use1 𝓛 (‵ (cells (mem R) xs b 0)) (apart 𝓛 R n one xs w b own) $ lft_new t z (λ ν. move t (1 ∷ []) $
      use1 𝓛 (later (some (λ (δ : GName). slice 𝓤 R (ν ∷ []) (ref_to b δ xs) (length xs) ⊛ ‵ (flent (ν ∷ []) (Held R (length xs) b 0 δ)))))
      (lends_slice 𝓛 R erased (ν ∷ []) xs b 0 (subst (Room R) (sym e) room)) $ await t z $ pick t (λ δ. split t $
      rewrite t 0 (λ (m : ℕ). slice 𝓤 R (ν ∷ []) (ref_to b δ xs) m) e refl $ move t (0 ∷ 2 ∷ []) $ k ν δ))

  pub back_array : K → Soaks G → (R : RattleType) (n : ℕ) (xs zs : List R.Denot) (b ν : ℕ) (δ : GName) → length xs ≡ n →
      ((w : Val) → Seq K 𝓛 (‵ (fat full_share (ty_array (lone R.mir) n) b 0 w) ∷ Γ) G)
      → Seq K 𝓛 (‵ (fsep (finally R δ zs) (feq ℕ (length zs) (length xs))) ∷ ‵ (flft (ν ∷ []) full_share) ∷ ‵ (flent (ν ∷ []) (Held R (length xs) b 0 δ)) ∷ Γ) G
  back_array t z R n xs zs b ν δ e k = fsplit t $ move t (1 ∷ []) $ drop t $ move t (1 ∷ []) $ lft_end t z $ move t (0 ∷ 2 ∷ 1 ∷ []) $
      use3 𝓛 (later (‵ ((Arr (mem R) (length xs)).own_at zs b 0))) (slice_back 𝓛 R (ν ∷ []) δ zs (length xs) b 0) $ await t z $ rewrite t 0 (λ (m : ℕ). ‵ ((Arr (mem R) m).own_at zs b 0)) e refl $
      use1 𝓛 (some (λ (w : Val). ‵ (fat full_share (ty_array (lone R.mir) n) b 0 w))) (whole 𝓛 R n zs b) $ pick t k
