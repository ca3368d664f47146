-- The collector's record in memory, as a local has it and as a reference to it is lent it.
--     mach                  the record's machine value
--     lies_in, lies_out     a local's cell is what is lent, and comes back as a local's cell
-- Assumes `Logic`.
use Rattle.std.proofs.Common.{ℕ, List, [], ◌∷◌, w16}
use seplogic.Ra.Ura.{Ura}
use base.Fraction.{full_share}
use mir.Val.{Val, vint, vstruct, vnil, vcons}
use base.Logic.{ent, guard}
use base.Fml.{fsep, fat}
use types.Logic.{Logic, sem}
use types.Kit.{‵, ◌$◌, ◌∵◌, !, qed, move, keep, use1, fsplit, fjoin, fpick, fpack, check, done}
use denote.Laws.{Is, shows}
use denote.Memory.{cell_at, mem, part_of}
use denote.Steps.{owned, peeks}
use denote.Struct.Steps.{spelt}
use denote.Struct.Laws as LL
use Rattle.rules.specs.declared.Collector.{Collector}
use Rattle.rules.specs.contracts.Collector as T
use Rattle.rules.proofs.Collector.TheLaws as T'

abbrev pub mach : Collector → Val
mach h = vstruct (vcons (vint w16 h.phase) (vcons (vint w16 h.position) (vcons (vint w16 h.closed) vnil)))

module _ {M : Type 1} {𝓤 : Ura M} (𝓛 : Logic 𝓤) (h : Collector) (b o : ℕ) where
  pub lies_in : Is T.the_row h (mach h ∷ []) → ent 𝓤 (sem 𝓛 (fat full_share T'.mir b o (mach h))) (sem 𝓛 ((mem T.the_row).own_at h b o))
  unfolding part_of
  lies_in is =
      qed 𝓛 (‵ (fat full_share T'.mir b o (mach h)) ∷ []) ∵
      use1 𝓛 (‵ (cell_at full_share (T.the_row).mir (mach h ∷ []) b o)) (𝓛.laws.at_raw full_share T'.mir b o (mach h)) $
      owned ! T.the_row (Is T.the_row) (LL.makes T.the_type T'.the_plain 𝓛) h (mach h ∷ []) is $ move ! (1 ∷ 0 ∷ []) $ fjoin ! $
      fpack ! (List Val) (λ us. fsep (cell_at full_share (T.the_row).mir us b o) ((T.the_row).own_val h us)) (mach h ∷ []) $ done !

  pub lies_out : ent 𝓤 (sem 𝓛 ((mem T.the_row).own_at h b o)) (guard 𝓤 (Is T.the_row h (mach h ∷ [])) (sem 𝓛 (fat full_share T'.mir b o (mach h))))
  unfolding part_of
  lies_out =
      qed 𝓛 (‵ ((mem T.the_row).own_at h b o) ∷ []) ∵ fpick ! (λ vs. fsplit ! $
      spelt ! T.the_row (Is T.the_row) (shows 𝓛 T.the_row) (LL.vals T.the_type T'.the_laws) (LL.tells T.the_type T'.the_laws) full_share h vs b o $
      move ! (1 ∷ []) $ peeks ! T.the_row (Is T.the_row) (shows 𝓛 T.the_row) h (mach h ∷ []) (λ is. check ! is $ keep ! (1 ∷ []) $
      use1 𝓛 (‵ (fat full_share T'.mir b o (mach h))) (𝓛.laws.raw_at full_share T'.mir b o (mach h)) $ done !))
