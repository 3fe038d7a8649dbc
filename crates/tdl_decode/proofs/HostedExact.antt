-- Hosted modules are read exactly.
use Rattle.std.proofs.Common.{ℕ, ◌++◌, sym, ap, ◌∙◌, arith}
use Rattle.tdl_base.specs.Bytes.{short, word}
use Rattle.tdl_image.specs.Spelling.{string, short_list, long_list, kind_name_bytes, initial_bytes, stack_code_bytes, task_bytes, call_bytes, release_bytes, driver_bytes, window_bytes, block_bytes}
use Rattle.tdl_decode.specs.BundleGrammar.{hosted}
use Rattle.tdl_decode.specs.BundleReading.{hosted_in}
use Rattle.tdl_decode.proofs.Exact.{Exact, faults_then, faults_none, sound_then, again_then}
use Rattle.tdl_decode.proofs.NumberFields.{short-exact, any_word-exact, fits_short, short_fits, fits_word, word_fits, seq_hosted}
use Rattle.tdl_decode.proofs.LongExact.{string-exact}
use Rattle.tdl_decode.proofs.ListedExact.{listed-exact, long_listed-exact}
use Rattle.tdl_decode.proofs.CodesExact.{code-exact, block-exact}
use Rattle.tdl_decode.proofs.TablesExact.{sensor-exact, initial-exact, task-exact, call-exact, release-exact, driver-exact, window-exact}

-- a hosted module whose number is at least so much
pub hosted-exact : (least : ℕ) → Exact (hosted least) (hosted_in least)
unfolding hosted_in
hosted-exact least = record {
  sound = λ bytes small.
      sound_then (hosted least) (λ b. b) _ (short-exact 4 least 65535 (omega arith)) (λ number m0 p0 s0.
      sound_then (hosted least) (λ b. short number ++ b) _ string-exact (λ name m1 p1 s1.
      sound_then (hosted least) (λ b. short number ++ (string name ++ b)) _ (listed-exact sensor-exact) (λ sensors m2 p2 s2.
      sound_then (hosted least) (λ b. short number ++ (string name ++ (short_list kind_name_bytes sensors ++ b))) _ (listed-exact initial-exact) (λ actuators m3 p3 s3.
      sound_then (hosted least) (λ b. short number ++ (string name ++ (short_list kind_name_bytes sensors ++ (short_list initial_bytes actuators ++ b)))) _ (listed-exact task-exact) (λ tasks m4 p4 s4.
      sound_then (hosted least) (λ b. short number ++ (string name ++ (short_list kind_name_bytes sensors ++ (short_list initial_bytes actuators ++ (short_list task_bytes tasks ++ b))))) _ (listed-exact string-exact) (λ modes m5 p5 s5.
      sound_then (hosted least) (λ b. short number ++ (string name ++ (short_list kind_name_bytes sensors ++ (short_list initial_bytes actuators ++ (short_list task_bytes tasks ++ (short_list string modes ++ b)))))) _ (listed-exact call-exact) (λ calls m6 p6 s6.
      sound_then (hosted least) (λ b. short number ++ (string name ++ (short_list kind_name_bytes sensors ++ (short_list initial_bytes actuators ++ (short_list task_bytes tasks ++ (short_list string modes ++ (short_list call_bytes calls ++ b))))))) _ (listed-exact release-exact) (λ releases m7 p7 s7.
      sound_then (hosted least) (λ b. short number ++ (string name ++ (short_list kind_name_bytes sensors ++ (short_list initial_bytes actuators ++ (short_list task_bytes tasks ++ (short_list string modes ++ (short_list call_bytes calls ++ (short_list release_bytes releases ++ b)))))))) _ (listed-exact code-exact) (λ guards m8 p8 s8.
      sound_then (hosted least) (λ b. short number ++ (string name ++ (short_list kind_name_bytes sensors ++ (short_list initial_bytes actuators ++ (short_list task_bytes tasks ++ (short_list string modes ++ (short_list call_bytes calls ++ (short_list release_bytes releases ++ (short_list stack_code_bytes guards ++ b))))))))) _ (listed-exact driver-exact) (λ drivers m9 p9 s9.
      sound_then (hosted least) (λ b. short number ++ (string name ++ (short_list kind_name_bytes sensors ++ (short_list initial_bytes actuators ++ (short_list task_bytes tasks ++ (short_list string modes ++ (short_list call_bytes calls ++ (short_list release_bytes releases ++ (short_list stack_code_bytes guards ++ (short_list driver_bytes drivers ++ b)))))))))) _ (long_listed-exact window-exact) (λ windows m10 p10 s10.
      sound_then (hosted least) (λ b. short number ++ (string name ++ (short_list kind_name_bytes sensors ++ (short_list initial_bytes actuators ++ (short_list task_bytes tasks ++ (short_list string modes ++ (short_list call_bytes calls ++ (short_list release_bytes releases ++ (short_list stack_code_bytes guards ++ (short_list driver_bytes drivers ++ (long_list window_bytes windows ++ b))))))))))) _ (long_listed-exact block-exact) (λ blocks m11 p11 s11.
      sound_then (hosted least) (λ b. short number ++ (string name ++ (short_list kind_name_bytes sensors ++ (short_list initial_bytes actuators ++ (short_list task_bytes tasks ++ (short_list string modes ++ (short_list call_bytes calls ++ (short_list release_bytes releases ++ (short_list stack_code_bytes guards ++ (short_list driver_bytes drivers ++ (long_list window_bytes windows ++ (long_list block_bytes blocks ++ b)))))))))))) _ any_word-exact (λ entry m12 p12 s12.
      record { lawful = (record { number = fits_short (omega arith, p0.1); name = p1; sensor_count = p2.0; sensors = p2.1; actuator_count = p3.0; actuators = p3.1; task_count = p4.0; tasks = p4.1; mode_count = p5.0; modes = p5.1; call_count = p6.0; calls = p6.1; release_count = p7.0; releases = p7.1; guard_count = p8.0; guards = p8.1; driver_count = p9.0; drivers = p9.1; window_count = p10.0; windows = p10.1; block_count = p11.0; blocks = p11.1; entry = fits_word p12 }, p0.0); front = seq_hosted (short number) (string name) (short_list kind_name_bytes sensors) (short_list initial_bytes actuators) (short_list task_bytes tasks) (short_list string modes) (short_list call_bytes calls) (short_list release_bytes releases) (short_list stack_code_bytes guards) (short_list driver_bytes drivers) (long_list window_bytes windows) (long_list block_bytes blocks) (word entry) m12 }
      ) m11 s11) m10 s10) m9 s9) m8 s8) m7 s7) m6 s6) m5 s5) m4 s4) m3 s3) m2 s2) m1 s1) m0 s0) bytes small;
  again = λ x rest p.
      ap (hosted_in least) (sym (seq_hosted (short x.number.0) (string x.name) (short_list kind_name_bytes x.sensors) (short_list initial_bytes x.actuators) (short_list task_bytes x.tasks) (short_list string x.modes) (short_list call_bytes x.calls) (short_list release_bytes x.releases) (short_list stack_code_bytes x.guards) (short_list driver_bytes x.drivers) (long_list window_bytes x.windows) (long_list block_bytes x.blocks) (word x.entry) rest))
      ∙ again_then _ (short-exact 4 least 65535 (omega arith)) x.number.0 _ (p.1, (short_fits p.0.number).1)
      ∙ again_then _ string-exact x.name _ (p.0.name)
      ∙ again_then _ (listed-exact sensor-exact) x.sensors _ ((p.0.sensor_count, p.0.sensors))
      ∙ again_then _ (listed-exact initial-exact) x.actuators _ ((p.0.actuator_count, p.0.actuators))
      ∙ again_then _ (listed-exact task-exact) x.tasks _ ((p.0.task_count, p.0.tasks))
      ∙ again_then _ (listed-exact string-exact) x.modes _ ((p.0.mode_count, p.0.modes))
      ∙ again_then _ (listed-exact call-exact) x.calls _ ((p.0.call_count, p.0.calls))
      ∙ again_then _ (listed-exact release-exact) x.releases _ ((p.0.release_count, p.0.releases))
      ∙ again_then _ (listed-exact code-exact) x.guards _ ((p.0.guard_count, p.0.guards))
      ∙ again_then _ (listed-exact driver-exact) x.drivers _ ((p.0.driver_count, p.0.drivers))
      ∙ again_then _ (long_listed-exact window-exact) x.windows _ ((p.0.window_count, p.0.windows))
      ∙ again_then _ (long_listed-exact block-exact) x.blocks _ ((p.0.block_count, p.0.blocks))
      ∙ again_then _ any_word-exact x.entry rest (word_fits p.0.entry);
  faults = λ bytes small.
      faults_then (short-exact 4 least 65535 (omega arith)) (λ number b s. faults_then string-exact (λ name b s. faults_then (listed-exact sensor-exact) (λ sensors b s. faults_then (listed-exact initial-exact) (λ actuators b s. faults_then (listed-exact task-exact) (λ tasks b s. faults_then (listed-exact string-exact) (λ modes b s. faults_then (listed-exact call-exact) (λ calls b s. faults_then (listed-exact release-exact) (λ releases b s. faults_then (listed-exact code-exact) (λ guards b s. faults_then (listed-exact driver-exact) (λ drivers b s. faults_then (long_listed-exact window-exact) (λ windows b s. faults_then (long_listed-exact block-exact) (λ blocks b s. faults_then any_word-exact (λ entry b s. faults_none _ b) b s) b s) b s) b s) b s) b s) b s) b s) b s) b s) b s) b s) bytes small;
}
