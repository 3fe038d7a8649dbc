-- Frames, byte by byte.
use Rattle.std.proofs.Common.{◌≡◌, pos, negsuc, true, false, [], ◌∷◌, refl}
use Rattle.tdl_base.specs.declared.kinds.Kind.TheVariants.{Boolean, Short, Int}
use Rattle.tdl_frame.specs.Frames.{frame_bytes}

-- the frame of an executed job whose output is 11
counted : frame_bytes
    (record {
      owner = 0;
      mode = 0;
      members =
          record { invocation = 1; executed = true; kinds = Int ∷ []; values = pos 11 ∷ [] } ∷ [];
    })
    ≡ 0 ∷ 0 ∷ 0 ∷ 0 ∷ 0 ∷ 1 ∷ 1 ∷ 0 ∷ 0 ∷ 0 ∷ 11 ∷ []
counted = refl

-- the frame of a job that was not executed, its outputs a truth and -2
unexecuted : frame_bytes
    (record {
      owner = 2;
      mode = 1;
      members =
          record { invocation = 258; executed = false; kinds = Boolean ∷ Short ∷ []; values = pos 1 ∷ negsuc 1 ∷ [] } ∷
          [];
    })
    ≡ 0 ∷ 2 ∷ 0 ∷ 1 ∷ 1 ∷ 2 ∷ 0 ∷ 1 ∷ 255 ∷ 254 ∷ []
unexecuted = refl
