-- The tables of hosted modules are read exactly.
use Rattle.std.proofs.Common.{◌++◌, sym, ap, ◌∙◌, arith}
use Rattle.tdl_base.specs.Bytes.{short, word, long}
use Rattle.tdl_image.specs.Spelling.{string, short_list, kind_bytes, initial_bytes, stack_code_bytes}
use Rattle.tdl_image.proofs.PrefixFree.{any}
use Rattle.tdl_decode.specs.BundleGrammar.{resource, sensor, initial, task, call, release, driver, window}
use Rattle.tdl_decode.specs.BundleReading.{sensor_in, initial_in, task_in, call_in, release_in, driver_in, window_in}
use Rattle.tdl_decode.proofs.Exact.{Exact, faults_then, faults_none, sound_then, again_then}
use Rattle.tdl_decode.proofs.NumberFields.{word-exact, any_short-exact, any_word-exact, fits_short, short_fits, fits_word, word_fits, seq2, seq3, seq5, seq6}
use Rattle.tdl_decode.proofs.LongExact.{long-exact, string-exact}
use Rattle.tdl_decode.proofs.ListedExact.{listed-exact}
use Rattle.tdl_decode.proofs.CodesExact.{kind-exact, resource-exact, code-exact}

-- a sensor
pub sensor-exact : Exact sensor sensor_in
unfolding sensor_in
sensor-exact = record {
  sound = λ bytes small.
      sound_then sensor (λ b. b) _ kind-exact (λ kind m0 p0 s0.
      sound_then sensor (λ b. kind_bytes kind ++ b) _ string-exact (λ name m1 p1 s1.
      record { lawful = record { name = p1 }; front = seq2 (kind_bytes kind) (string name) m1 }
      ) m0 s0) bytes small;
  again = λ x rest p.
      ap sensor_in (sym (seq2 (kind_bytes x.kind) (string x.name) rest))
      ∙ again_then _ kind-exact x.kind _ (tt)
      ∙ again_then _ string-exact x.name rest (p.name);
  faults = λ bytes small.
      faults_then kind-exact (λ kind b s. faults_then string-exact (λ name b s. faults_none _ b) b s) bytes small;
}

-- an actuator or an output
pub initial-exact : Exact initial initial_in
unfolding initial_in
initial-exact = record {
  sound = λ bytes small.
      sound_then initial (λ b. b) _ kind-exact (λ kind m0 p0 s0.
      sound_then initial (λ b. kind_bytes kind ++ b) _ string-exact (λ name m1 p1 s1.
      sound_then initial (λ b. kind_bytes kind ++ (string name ++ b)) _ (long-exact kind) (λ v m2 p2 s2.
      record { lawful = record { name = p1; initial = p2 }; front = seq3 (kind_bytes kind) (string name) (long v) m2 }
      ) m1 s1) m0 s0) bytes small;
  again = λ x rest p.
      ap initial_in (sym (seq3 (kind_bytes x.kind) (string x.name) (long x.initial) rest))
      ∙ again_then _ kind-exact x.kind _ (tt)
      ∙ again_then _ string-exact x.name _ (p.name)
      ∙ again_then _ (long-exact x.kind) x.initial rest (p.initial);
  faults = λ bytes small.
      faults_then kind-exact (λ kind b s. faults_then string-exact (λ name b s. faults_then (long-exact kind) (λ v b s. faults_none _ b) b s) b s) bytes small;
}

-- a task
pub task-exact : Exact task task_in
unfolding task_in
task-exact = record {
  sound = λ bytes small.
      sound_then task (λ b. b) _ string-exact (λ name m0 p0 s0.
      sound_then task (λ b. string name ++ b) _ (word-exact 1 4294967295 (omega arith)) (λ worst m1 p1 s1.
      sound_then task (λ b. string name ++ (word worst ++ b)) _ (listed-exact kind-exact) (λ inputs m2 p2 s2.
      sound_then task (λ b. string name ++ (word worst ++ (short_list kind_bytes inputs ++ b))) _ (listed-exact initial-exact) (λ outputs m3 p3 s3.
      sound_then task (λ b. string name ++ (word worst ++ (short_list kind_bytes inputs ++ (short_list initial_bytes outputs ++ b)))) _ (listed-exact kind-exact) (λ locals m4 p4 s4.
      sound_then task (λ b. string name ++ (word worst ++ (short_list kind_bytes inputs ++ (short_list initial_bytes outputs ++ (short_list kind_bytes locals ++ b))))) _ code-exact (λ body m5 p5 s5.
      record { lawful = record { name = p0; worst = p1.0; worst_fits = fits_word (omega arith, p1.1); input_count = p2.0; output_count = p3.0; outputs = p3.1; local_count = p4.0; body = p5 }; front = seq6 (string name) (word worst) (short_list kind_bytes inputs) (short_list initial_bytes outputs) (short_list kind_bytes locals) (stack_code_bytes body) m5 }
      ) m4 s4) m3 s3) m2 s2) m1 s1) m0 s0) bytes small;
  again = λ x rest p.
      ap task_in (sym (seq6 (string x.name) (word x.worst) (short_list kind_bytes x.inputs) (short_list initial_bytes x.outputs) (short_list kind_bytes x.locals) (stack_code_bytes x.body) rest))
      ∙ again_then _ string-exact x.name _ (p.name)
      ∙ again_then _ (word-exact 1 4294967295 (omega arith)) x.worst _ (p.worst, (word_fits p.worst_fits).1)
      ∙ again_then _ (listed-exact kind-exact) x.inputs _ ((p.input_count, any x.inputs))
      ∙ again_then _ (listed-exact initial-exact) x.outputs _ ((p.output_count, p.outputs))
      ∙ again_then _ (listed-exact kind-exact) x.locals _ ((p.local_count, any x.locals))
      ∙ again_then _ code-exact x.body rest (p.body);
  faults = λ bytes small.
      faults_then string-exact (λ name b s. faults_then (word-exact 1 4294967295 (omega arith)) (λ worst b s. faults_then (listed-exact kind-exact) (λ inputs b s. faults_then (listed-exact initial-exact) (λ outputs b s. faults_then (listed-exact kind-exact) (λ locals b s. faults_then code-exact (λ body b s. faults_none _ b) b s) b s) b s) b s) b s) bytes small;
}

-- a call
pub call-exact : Exact call call_in
unfolding call_in
call-exact = record {
  sound = λ bytes small.
      sound_then call (λ b. b) _ any_short-exact (λ task m0 p0 s0.
      sound_then call (λ b. short task ++ b) _ (listed-exact code-exact) (λ args m1 p1 s1.
      record { lawful = record { task = fits_short p0; count = p1.0; args = p1.1 }; front = seq2 (short task) (short_list stack_code_bytes args) m1 }
      ) m0 s0) bytes small;
  again = λ x rest p.
      ap call_in (sym (seq2 (short x.task) (short_list stack_code_bytes x.args) rest))
      ∙ again_then _ any_short-exact x.task _ (short_fits p.task)
      ∙ again_then _ (listed-exact code-exact) x.args rest ((p.count, p.args));
  faults = λ bytes small.
      faults_then any_short-exact (λ task b s. faults_then (listed-exact code-exact) (λ args b s. faults_none _ b) b s) bytes small;
}

-- a release
pub release-exact : Exact release release_in
unfolding release_in
release-exact = record {
  sound = λ bytes small.
      sound_then release (λ b. b) _ any_short-exact (λ mode m0 p0 s0.
      sound_then release (λ b. short mode ++ b) _ any_short-exact (λ invocation m1 p1 s1.
      sound_then release (λ b. short mode ++ (short invocation ++ b)) _ any_short-exact (λ call m2 p2 s2.
      record { lawful = record { mode = fits_short p0; invocation = fits_short p1; call = fits_short p2 }; front = seq3 (short mode) (short invocation) (short call) m2 }
      ) m1 s1) m0 s0) bytes small;
  again = λ x rest p.
      ap release_in (sym (seq3 (short x.mode) (short x.invocation) (short x.call) rest))
      ∙ again_then _ any_short-exact x.mode _ (short_fits p.mode)
      ∙ again_then _ any_short-exact x.invocation _ (short_fits p.invocation)
      ∙ again_then _ any_short-exact x.call rest (short_fits p.call);
  faults = λ bytes small.
      faults_then any_short-exact (λ mode b s. faults_then any_short-exact (λ invocation b s. faults_then any_short-exact (λ call b s. faults_none _ b) b s) b s) bytes small;
}

-- a driver
pub driver-exact : Exact driver driver_in
unfolding driver_in
driver-exact = record {
  sound = λ bytes small.
      sound_then driver (λ b. b) _ any_short-exact (λ actuator m0 p0 s0.
      sound_then driver (λ b. short actuator ++ b) _ code-exact (λ value m1 p1 s1.
      record { lawful = record { actuator = fits_short p0; value = p1 }; front = seq2 (short actuator) (stack_code_bytes value) m1 }
      ) m0 s0) bytes small;
  again = λ x rest p.
      ap driver_in (sym (seq2 (short x.actuator) (stack_code_bytes x.value) rest))
      ∙ again_then _ any_short-exact x.actuator _ (short_fits p.actuator)
      ∙ again_then _ code-exact x.value rest (p.value);
  faults = λ bytes small.
      faults_then any_short-exact (λ actuator b s. faults_then code-exact (λ value b s. faults_none _ b) b s) bytes small;
}

-- a window
pub window-exact : Exact window window_in
unfolding window_in
window-exact = record {
  sound = λ bytes small.
      sound_then window (λ b. b) _ resource-exact (λ bus m0 p0 s0.
      sound_then window (λ b. resource.spelling bus ++ b) _ any_short-exact (λ mode m1 p1 s1.
      sound_then window (λ b. resource.spelling bus ++ (short mode ++ b)) _ any_short-exact (λ invocation m2 p2 s2.
      sound_then window (λ b. resource.spelling bus ++ (short mode ++ (short invocation ++ b))) _ any_word-exact (λ offset m3 p3 s3.
      sound_then window (λ b. resource.spelling bus ++ (short mode ++ (short invocation ++ (word offset ++ b)))) _ any_word-exact (λ len m4 p4 s4.
      record { lawful = record { mode = fits_short p1; invocation = fits_short p2; offset = fits_word p3; length = fits_word p4 }; front = seq5 (resource.spelling bus) (short mode) (short invocation) (word offset) (word len) m4 }
      ) m3 s3) m2 s2) m1 s1) m0 s0) bytes small;
  again = λ x rest p.
      ap window_in (sym (seq5 (resource.spelling x.bus) (short x.mode) (short x.invocation) (word x.offset) (word x.length) rest))
      ∙ again_then _ resource-exact x.bus _ (tt)
      ∙ again_then _ any_short-exact x.mode _ (short_fits p.mode)
      ∙ again_then _ any_short-exact x.invocation _ (short_fits p.invocation)
      ∙ again_then _ any_word-exact x.offset _ (word_fits p.offset)
      ∙ again_then _ any_word-exact x.length rest (word_fits p.length);
  faults = λ bytes small.
      faults_then resource-exact (λ bus b s. faults_then any_short-exact (λ mode b s. faults_then any_short-exact (λ invocation b s. faults_then any_word-exact (λ offset b s. faults_then any_word-exact (λ len b s. faults_none _ b) b s) b s) b s) b s) bytes small;
}
