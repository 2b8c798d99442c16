-- steps says what the code mirrors; what it evaluates is said in xs_eval_spec.
pub mod steps
