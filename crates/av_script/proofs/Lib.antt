pub mod HexLemmas
pub mod LineLemmas
pub mod PatternLemmas
pub mod PortExampleLemmas
pub mod PortScriptLemmas
pub mod ScriptLemmas
pub mod WordLemmas
