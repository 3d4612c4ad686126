-- The machine's definitions, from the words of a listing to the statement over whole runs.
pub mod Words
pub mod Watch
pub mod Frames
pub mod Answers
pub mod HostEnd
pub mod DeviceEnd
pub mod Button
pub mod Lines
pub mod Calls
pub mod Events
pub mod Statement
pub mod Refused
